-- Strays are stopped as a round that is alone stops them.
use Rattle.std.proofs.Common.{◌≡◌, ℕ, Bool, true, false, not, cond, List, [], ◌∷◌, ◌++◌, refl, sym, ap, subst, ◌∙◌}
use Rattle.std.proofs.lemmas.List.{append-nil}
use Rattle.cell_rep.specs.Ends.{without}
use Rattle.cell_rep.specs.declared.rep.CellRep.{CellRep}
use Rattle.converge_round.specs.Each.{Each}
use Rattle.converge_round.specs.Stops.{Stopped, StopsIf, StopsOne, if_done}
use Rattle.diego_names.specs.declared.instance.Instance.{Instance}
use Rattle.phase_runs.specs.Names.{is_among}
use Rattle.scenario_lines.specs.declared.script.RoundLine.{RoundLine}
use Rattle.run_function.specs.Reps.{rep_named, with_rep}
use Rattle.run_function.specs.RoundLaws.{AreReps}
use Rattle.run_function.specs.Rounds.{given_up, sole_stops, stops_alone}
use Rattle.run_function.proofs.CellsKept.{are_set, without_cell}
use Rattle.run_function.proofs.Named.{none_named, set_named, stands_named}
use Rattle.run_function.proofs.Steady.{IsOf, reached_stopped}
use Rattle.run_function.proofs.Stored.{without_keeps}

abbrev Stray : Type 0
Stray = List ℕ × Instance

-- one stop
stopped_if : (lost done : Bool) (stray : Stray) (reps reps' : List CellRep) (stopped : List Stray) → AreReps reps
    → StopsIf (not lost) done stray reps reps'
    → sole_stops reps' (stopped ++ if_done done stray) ≡ cond lost (sole_stops reps stopped)
    (given_up stray (sole_stops reps stopped) (rep_named reps stray.0))
stopped_if true true stray reps reps' stopped are h = absurd h
stopped_if true false stray reps reps' stopped are h = λ i. sole_stops (h i) (append-nil stopped i)
stopped_if false true stray reps reps' stopped are h =
    let named = stands_named reps stray.0 h.place h.rep are.apart h.stands in
    let reps_are : reps' ≡ with_rep reps stray.0 (without h.rep stray.1) =
    h.is ∙ set_named reps stray.0 h.place h.rep (without h.rep stray.1) are.apart h.stands in
    ap (λ (xs : List CellRep). sole_stops xs (stopped ++ stray ∷ [])) reps_are
    ∙ sym (ap (given_up stray (sole_stops reps stopped)) named)
stopped_if false false stray reps reps' stopped are h =
    (λ i. sole_stops (h.1 i) (append-nil stopped i))
    ∙ sym (ap (given_up stray (sole_stops reps stopped)) (none_named reps stray.0 h.0))

-- the reps are still reps
reps_if : (reached done : Bool) (stray : Stray) (reps reps' : List CellRep) → AreReps reps
    → StopsIf reached done stray reps reps' → AreReps reps'
reps_if true true stray reps reps' are h =
    let place_kept = are_set reps stray.0 h.place h.rep (without h.rep stray.1) are h.stands
    (without_cell h.rep stray.1)
    (without_keeps h.rep stray.1 (are.stores h.rep (h.place, h.stands.within, sym h.stands.is))) in
    subst AreReps (sym h.is) place_kept
reps_if true false stray reps reps' are h = subst AreReps (sym h.1) are
reps_if false true stray reps reps' are h = absurd h
reps_if false false stray reps reps' are h = subst AreReps (sym h) are

-- what stops come to
pub record AreStopsAlone (line : RoundLine) (strays : List Stray) (s s' : Stopped) : Type 0 where
  pub same : sole_stops s'.course.reps s'.stopped ≡ stops_alone line strays (sole_stops s.course.reps s.stopped)
  pub are : AreReps s'.course.reps
  pub still : IsOf line s'.course.wire

one_stopped : (line : RoundLine) (stray : Stray) (s s' : Stopped) → AreReps s.course.reps → StopsOne stray s s'
    → IsOf line s.course.wire → AreStopsAlone line (stray ∷ []) s s'
one_stopped line stray s s' are h of =
    let sent = reached_stopped line stray.0 h.stops.reached s.course.wire s'.course.wire h.stops.sent of in
    let stops = subst (λ (b : Bool). StopsIf b h.done stray s.course.reps s'.course.reps) sent.0 h.stops.stops in
    record {
      same = ap (sole_stops s'.course.reps) h.stopped ∙ stopped_if
          (is_among line.lose_stop stray.0) h.done stray s.course.reps s'.course.reps s.stopped are stops;
      are = reps_if (not (is_among line.lose_stop stray.0)) h.done stray s.course.reps s'.course.reps are stops;
      still = sent.1;
    }

pub stopped_all : (line : RoundLine) (strays : List Stray) (s s' : Stopped) → AreReps s.course.reps
    → Each StopsOne strays s s' → IsOf line s.course.wire → AreStopsAlone line strays s s'
stopped_all line [] s s' are f of = subst (AreStopsAlone line [] s) (sym f)
    (record { same = refl; are = are; still = of })
stopped_all line (stray ∷ rest) s s' are f of =
    let one = one_stopped line stray s f.0 are f.1 of in
    let more = stopped_all line rest f.0 s' one.are f.2 one.still in
    record { same = more.same ∙ ap (stops_alone line rest) one.same; are = more.are; still = more.still }
