-- Phases that ran on one server and then on another, or were cut off between the two.
use Rattle.std.proofs.Common.{◌≡◌, ℕ, ◌+◌, true, false, Bool, List, [], ◌∷◌, ◌++◌, Option, length, refl, sym, ap, subst, ◌∙◌, append_assoc, arith, length-append}
use Rattle.std.specs.Prelude.{◌||◌}
use Rattle.std.proofs.lemmas.List.{append-nil}
use Rattle.std.proofs.lemmas.List.Folds.{list_any-append}
use Rattle.program_ends.specs.Ports.{PrintsTo}
use Rattle.pair_lines.specs.declared.answered.PairAnswered.{PairAnswered}
use Rattle.scenario_lines.specs.declared.script.Phase.{Phase}
use Rattle.scenario_lines.specs.declared.script.Script.{Script}
use Rattle.pair_runs.specs.Accounts.{Serves, is_any_disk}
use Rattle.pair_runs.specs.Phases.{EndsInPhase, PhasesEnd, PlaysPhases, StopsIn}
use Rattle.pair_runs.specs.Served.{ServerView}
use Rattle.pair_runs.specs.Turns.{phase_turns}
use Rattle.pair_runs.specs.declared.phases.PhasesEnded.{PhasesEnded}
use Rattle.pair_runs.specs.declared.phases.PhasesEnded.TheVariants as ended
use Rattle.pair_runs.proofs.Public.{plays_then, prints_none, prints_then, serves_none, serves_then}

both_calm : (xs ys : List PairAnswered) → is_any_disk xs ≡ false → is_any_disk ys ≡ false
    → is_any_disk (xs ++ ys) ≡ false
both_calm xs ys one two = list_any-append _ xs ys ∙ ap (λ (b : Bool). b || is_any_disk ys) one ∙ two

-- no phase was to run
pub none_end : (script : Script) (v : ServerView) (answers : List PairAnswered) (held : Option (List ℕ)) (faults : ℕ)
    → PhasesEnd script [] ended.Done 0 v v answers answers held held faults faults
none_end script v answers held faults = record {
  ran = [];
  rest = [];
  split = refl;
  first = [];
  text = [];
  plays = (refl, refl);
  calm = refl;
  last = [];
  answers_are = sym (append-nil (answers ++ []) ∙ append-nil answers);
  served = serves_none v;
  extra = 0;
  stops = (refl, refl, refl, prints_none held faults);
  told_is = refl;
}

module _ (script : Script) (more : List Phase) where
  longer_end : (rest : List Phase) (last : List PairAnswered) (text : List ℕ) → EndsInPhase script rest last text
      → EndsInPhase script (rest ++ more) last text
  longer_end rest last text ends = record {
    phase = ends.phase;
    later = ends.later ++ more;
    split = ap (λ (l : List Phase). l ++ more) ends.split;
    plays = ends.plays;
  }

  stops_longer : (how : PhasesEnded) (rest : List Phase) (last : List PairAnswered) (before : List ℕ) (extra : ℕ)
      (held held' : Option (List ℕ)) (faults faults' : ℕ) → (how ≡ ended.Done → more ≡ [])
      → StopsIn how script rest last before extra held held' faults faults'
      → StopsIn how script (rest ++ more) last before extra held held' faults faults'
  stops_longer ended.Done rest last before extra held held' faults faults' none stops =
      (ap (λ (l : List Phase). rest ++ l) (none refl) ∙ append-nil rest ∙ stops.0, stops.1, stops.2, stops.3)
  stops_longer ended.Doubt rest last before extra held held' faults faults' none stops =
      (stops.0, longer_end rest last stops.0 stops.1, stops.2, stops.3, stops.4)
  stops_longer ended.Unwritten rest last before extra held held' faults faults' none stops =
      (stops.0, longer_end rest last stops.0 stops.1, stops.2)
  stops_longer ended.OutOfMemory rest last before extra held held' faults faults' none stops = (
    record {
      phase = stops.0.phase;
      later = stops.0.later ++ more;
      split = ap (λ (l : List Phase). l ++ more) stops.0.split;
      cuts = stops.0.cuts;
    },
    stops.1,
  )

  -- phases that weren't all to run, or none more is
  pub ends_longer : (ps : List Phase) (how : PhasesEnded) (count : ℕ) (v w : ServerView)
      (answers answers' : List PairAnswered) (held held' : Option (List ℕ)) (faults faults' : ℕ)
      → (how ≡ ended.Done → more ≡ [])
      → PhasesEnd script ps how count v w answers answers' held held' faults faults'
      → PhasesEnd script (ps ++ more) how count v w answers answers' held held' faults faults'
  ends_longer ps how count v w answers answers' held held' faults faults' none ends = record {
    ran = ends.ran;
    rest = ends.rest ++ more;
    split = ap (λ (l : List Phase). l ++ more) ends.split ∙ append_assoc ends.ran ends.rest more;
    first = ends.first;
    text = ends.text;
    plays = ends.plays;
    calm = ends.calm;
    last = ends.last;
    answers_are = ends.answers_are;
    served = ends.served;
    extra = ends.extra;
    stops = stops_longer how ends.rest ends.last ends.text ends.extra held held' faults faults' none ends.stops;
    told_is = ends.told_is;
  }

-- phases that all ran, and no disk failed
module _ (script : Script) (ps : List Phase) (one : ℕ) (v m : ServerView) (answers mid : List PairAnswered)
    (held between : Option (List ℕ)) (faults some : ℕ)
    (begun : PhasesEnd script ps ended.Done one v m answers mid held between faults some) where
  all_given : begun.first ++ begun.last ≡ begun.first
  all_given = ap (λ (l : List PairAnswered). begun.first ++ l) begun.stops.1 ∙ append-nil begun.first

  all_ran : begun.ran ≡ ps
  all_ran = sym (begun.split ∙ ap (λ (l : List Phase). begun.ran ++ l) begun.stops.0 ∙ append-nil begun.ran)

  pub given : mid ≡ answers ++ begun.first
  given = begun.answers_are ∙ ap (λ (l : List PairAnswered). answers ++ begun.first ++ l) begun.stops.1
      ∙ append-nil (answers ++ begun.first)

  pub served_all : Serves v m begun.first
  served_all = subst (λ (l : List PairAnswered). Serves v m l) all_given begun.served

  pub played : PlaysPhases script ps begun.first begun.text
  played = subst (λ (l : List Phase). PlaysPhases script l begun.first begun.text) all_ran begun.plays

  pub counted : one ≡ length ps
  counted =
      let ran : length begun.ran ≡ length ps = ap length all_ran in
      omega (arith, begun.told_is, begun.stops.2, ran)

  stops_then : (how : PhasesEnded) (rest : List Phase) (last : List PairAnswered) (before : List ℕ) (extra : ℕ)
      (held' : Option (List ℕ)) (faults' : ℕ)
      → StopsIn how script rest last before extra between held' some faults'
      → StopsIn how script rest last (begun.text ++ before) extra held held' faults faults'
  stops_then ended.Done rest last before extra held' faults' stops = (
    stops.0,
    stops.1,
    stops.2,
    prints_then true begun.text before held between held' faults some faults' begun.stops.3 stops.3,
  )
  stops_then ended.Doubt rest last before extra held' faults' stops = (
    stops.0,
    stops.1,
    stops.2,
    stops.3,
    subst (λ (t : List ℕ). PrintsTo true t held held' faults faults') (sym (append_assoc begun.text before stops.0))
        (prints_then true begun.text (before ++ stops.0) held between held' faults some faults' begun.stops.3 stops.4),
  )
  stops_then ended.Unwritten rest last before extra held' faults' stops = (
    stops.0,
    stops.1,
    subst (λ (t : List ℕ). PrintsTo false t held held' faults faults') (sym (append_assoc begun.text before stops.0))
        (prints_then false begun.text (before ++ stops.0) held between held' faults some faults' begun.stops.3 stops.2),
  )
  stops_then ended.OutOfMemory rest last before extra held' faults' stops = (
    stops.0,
    prints_then true begun.text before held between held' faults some faults' begun.stops.3 stops.1,
  )

  -- and then others
  module _ (qs : List Phase) (how : PhasesEnded) (two : ℕ) (w : ServerView) (answers' : List PairAnswered)
      (held' : Option (List ℕ)) (faults' : ℕ)
      (goes : PhasesEnd script qs how two m w mid answers' between held' some faults') where
    answers_then : answers' ≡ answers ++ (begun.first ++ goes.first) ++ goes.last
    answers_then =
        goes.answers_are ∙ ap (λ (l : List PairAnswered). l ++ goes.last)
        (ap (λ (l : List PairAnswered). l ++ goes.first) given ∙ append_assoc answers begun.first goes.first)

    told_then : one + two ≡ length (ps ++ goes.ran) + goes.extra
    told_then = omega (arith, counted, goes.told_is, length-append ps goes.ran)

    pub ends_then : PhasesEnd script (ps ++ qs) how (one + two) v w answers answers' held held' faults faults'
    ends_then = record {
      ran = ps ++ goes.ran;
      rest = goes.rest;
      split = ap (λ (l : List Phase). ps ++ l) goes.split ∙ sym (append_assoc ps goes.ran goes.rest);
      first = begun.first ++ goes.first;
      text = begun.text ++ goes.text;
      plays = plays_then script ps goes.ran begun.first goes.first begun.text goes.text played goes.plays;
      calm = both_calm begun.first goes.first begun.calm goes.calm;
      last = goes.last;
      answers_are = answers_then;
      served = subst (λ (l : List PairAnswered). Serves v w l) (sym (append_assoc begun.first goes.first goes.last))
          (serves_then v m w begun.first (goes.first ++ goes.last) served_all goes.served);
      extra = goes.extra;
      stops = stops_then how goes.rest goes.last goes.text goes.extra held' faults' goes.stops;
      told_is = told_then;
    }

  -- memory ran out before the next call
  pub ends_starved : (q : Phase) (qs : List Phase)
      → PhasesEnd script (ps ++ q ∷ qs) ended.OutOfMemory one v m answers mid held between faults some
  ends_starved q qs = record {
    ran = ps;
    rest = q ∷ qs;
    split = refl;
    first = begun.first;
    text = begun.text;
    plays = played;
    calm = begun.calm;
    last = [];
    answers_are = begun.answers_are ∙ ap (λ (l : List PairAnswered). answers ++ begun.first ++ l) begun.stops.1;
    served = subst (λ (l : List PairAnswered). Serves v m (begun.first ++ l)) begun.stops.1 begun.served;
    extra = 0;
    stops = (
      record {
        phase = q;
        later = qs;
        split = refl;
        cuts = record { left = phase_turns (length script.actors) q; turns = refl };
      },
      begun.stops.3,
    );
    told_is = omega (arith, counted);
  }
