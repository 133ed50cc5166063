-- The reps of a script are reps, and stay so through its phases.
use Rattle.std.proofs.Common.{◌≡◌, ◌≢◌, ℕ, zero, suc, ◌<◌, Bool, true, false, List, [], ◌∷◌, length, Option, Some, None, refl, sym, ap, subst, ◌∙◌, arith, ⊎_elim, slice_get}
use Rattle.std.specs.List.{Contains}
use Rattle.disk_trait.specs.Past.{Past}
use Rattle.bbs_board.specs.Doubts.{doubts_in}
use Rattle.bbs_board.specs.View.{View}
use Rattle.cell_rep.specs.Laws.{HasStore}
use Rattle.cell_rep.specs.declared.rep.CellRep.{CellRep}
use Rattle.converge_laws.proofs.Public.{first_or_rest, inside_first, inside_rest}
use Rattle.converge_round.specs.Askings.{StandApart}
use Rattle.converge_round.specs.Reps.{KeepReps, names_of}
use Rattle.convergence.specs.declared.report.Report.{Report}
use Rattle.round_theorem.proofs.Public.{Differ, differ_pairs}
use Rattle.scenario_lines.specs.declared.actor.Actor.{Actor}
use Rattle.scenario_lines.specs.declared.answered.Answered.{Answered}
use Rattle.scenario_lines.specs.declared.script.Phase.{Phase}
use Rattle.scenario_lines.specs.declared.script.RoundLine.{RoundLine}
use Rattle.scenario_lines.specs.declared.script.Script.{Script}
use Rattle.scenario_reader.specs.Facts.{IsScript}
use Rattle.phase_actors.specs.Turns.{turns_in}
use Rattle.phase_actors.specs.declared.actor_state.ActorState.{ActorState}
use Rattle.phase_actors.specs.declared.actor_state.ActorState.TheVariants as actor
use Rattle.phase_runs.specs.Phases.{HasRound, PhaseRan, RoundRan}
use Rattle.phase_runs.specs.Reps.{reps_of, with_reps}
use Rattle.scenario_player.specs.Actors.{starting_actors}
use Rattle.run_function.specs.RoundLaws.{AreReps}
use Rattle.run_function.proofs.ByNumber.{at_there, inside_at}
use Rattle.run_function.proofs.Calls.{doubts_both}
use Rattle.run_function.proofs.PhaseAlone.{doubted}
use Rattle.run_function.proofs.RoundAlone.{reps_are_after}
use Rattle.run_function.proofs.StoresOn.{same_reps, turns_keep}

-- the reps in the actors' cells are those that were put there
reps_put : (xs : List ActorState) (reps : List CellRep) → KeepReps (reps_of xs) reps
    → reps_of (with_reps xs reps) ≡ reps
reps_put [] [] kept = refl
reps_put [] (r ∷ rs) kept = absurd kept
reps_put (actor.Client name ∷ xs) reps kept = reps_put xs reps kept
reps_put (actor.Cell rep ∷ xs) [] kept = absurd kept
reps_put (actor.Cell rep ∷ xs) (r ∷ rs) kept = ap (λ (ys : List CellRep). r ∷ ys) (reps_put xs rs kept.1)

module _ {D : Type 0} (told : D → Option Past) (phase : Phase) (olds news : List ActorState)
    (parts : List (List Answered)) (report : Option Report)
    (v w : View D) (h : PhaseRan told phase olds news parts report v w) (calm : doubts_in w.log ≡ 0)
    (are : AreReps (reps_of olds)) where
  mids_are : AreReps (reps_of h.mids)
  mids_are = same_reps olds h.mids h.same are
      (λ k a a' old mid has.
      let part = at_there parts k (omega (arith, h.count_is, lower olds k a old)) in
      let ran = h.ran k a a' part.0 old mid part.1 in
      turns_keep (suc k) phase.at (turns_in (suc k) phase.lines) a a' ran.first ran.last part.0 ran.taken has)
    where
      lower : (xs : List ActorState) (k : ℕ) (a : ActorState) → slice_get xs k ≡ Some a → k < length xs
      lower [] k a e = absurd cc
      lower (x ∷ xs) zero a e = omega arith
      lower (x ∷ xs) (suc k) a e = let rest = lower xs k a e in omega (arith, rest)

  round_reps : (line : RoundLine) (o : Option Report) → HasRound v.base v.log h.fresh phase.at line h.mids news o
      → AreReps (reps_of news)
  round_reps line None round =
      absurd (doubted h.fresh 0 round.told.0 round.told.1 (omega
      (arith, doubts_both v.log h.fresh, ap doubts_in h.goes.grows, calm)))
  round_reps line (Some r) round =
      let after = reps_are_after phase.at line (reps_of h.mids) round.reps round.first round.last r round.told mids_are
      in
      subst AreReps (sym (ap reps_of round.news_are ∙ reps_put h.mids round.reps round.kept)) after

  by_round : (o : Option RoundLine) → RoundRan o v.base v.log h.fresh phase.at h.mids news report
      → AreReps (reps_of news)
  by_round None round = subst (λ (xs : List ActorState). AreReps (reps_of xs)) (sym round.1.0) mids_are
  by_round (Some line) round = round_reps line report round

  pub phase_reps : AreReps (reps_of news)
  phase_reps = by_round phase.round h.round

-- names that differ stand apart
one_apart : (n : List ℕ) (ns : List (List ℕ)) → ((m : List ℕ) → Contains ns m → m ≢ n) → StandApart ns
    → StandApart (n ∷ ns)
one_apart n ns ne rest zero zero name a b = refl
one_apart n ns ne rest zero (suc j) name a b = let same : n ≡ name = cc in
    absurd (ne name (inside_at ns j name b) (sym same))
one_apart n ns ne rest (suc i) zero name a b = let same : n ≡ name = cc in
    absurd (ne name (inside_at ns i name a) (sym same))
one_apart n ns ne rest (suc i) (suc j) name a b = ap suc (rest i j name a b)

differ_apart : (ns : List (List ℕ)) → Differ ns → StandApart ns
differ_apart [] d = λ i j name a b. absurd cc
differ_apart (n ∷ ns) d = one_apart n ns d.0 (differ_apart ns d.1)

-- a cell of a script
abbrev cell_of : List ℕ → Actor
cell_of name = record { cell = true; name = name }

-- an actor of a script
abbrev actor_of : Bool → List ℕ → Actor
actor_of cell name = record { cell = cell; name = name }

-- the names of the cells among these
abbrev cells_in : List Actor → List (List ℕ)
cells_in xs = names_of (reps_of (starting_actors xs))

from_one : (b : Bool) (m n : List ℕ) (xs : List Actor) → (Contains (cells_in xs) n → Contains xs (cell_of n))
    → Contains (cells_in (actor_of b m ∷ xs)) n
    → Contains (actor_of b m ∷ xs) (cell_of n)
from_one false m n xs rest inside = inside_rest (cell_of n) (actor_of false m) xs (rest inside)
from_one true m n xs rest inside = ⊎_elim
    (λ (same : m ≡ n). subst (λ (k : List ℕ). Contains (cell_of m ∷ xs) (cell_of k)) same (inside_first (cell_of m) xs))
    (λ (there : Contains (cells_in xs) n). inside_rest (cell_of n) (cell_of m) xs (rest there))
    (first_or_rest n m (cells_in xs) inside)

from_script : (xs : List Actor) (n : List ℕ) → Contains (cells_in xs) n → Contains xs (cell_of n)
from_script [] n inside = absurd (omega (arith, inside.1))
from_script (x ∷ xs) n inside = from_one x.cell x.name n xs (from_script xs n) inside

one_differs : (b : Bool) (m : List ℕ) (xs : List Actor) → ((y : Actor) → Contains xs y → y ≢ actor_of b m)
    → Differ (cells_in xs) → Differ (cells_in (actor_of b m ∷ xs))
one_differs false m xs ne rest = rest
one_differs true m xs ne rest = (λ n inside e. ne (cell_of n) (from_script xs n inside) (ap cell_of e), rest)

script_differ : (xs : List Actor) → Differ xs → Differ (cells_in xs)
script_differ [] d = tt
script_differ (x ∷ xs) d = one_differs x.cell x.name xs d.0 (script_differ xs d.1)

one_new : (b : Bool) (m : List ℕ) (xs : List Actor) (r : CellRep)
    → (Contains (reps_of (starting_actors xs)) r → HasStore r.joined)
    → Contains (reps_of (starting_actors (actor_of b m ∷ xs))) r → HasStore r.joined
one_new false m xs r rest inside = rest inside
one_new true m xs r rest inside = ⊎_elim
    (λ same. subst (λ (q : CellRep). HasStore q.joined) same tt)
    rest
    (first_or_rest r (record { cell = m; joined = None }) (reps_of (starting_actors xs)) inside)

new_stores : (xs : List Actor) (r : CellRep) → Contains (reps_of (starting_actors xs)) r → HasStore r.joined
new_stores [] r inside = absurd (omega (arith, inside.1))
new_stores (x ∷ xs) r inside = one_new x.cell x.name xs r (new_stores xs r) inside

pub script_reps : (script : Script) → IsScript script → AreReps (reps_of (starting_actors script.actors))
script_reps script is = record {
  apart = differ_apart (names_of (reps_of (starting_actors script.actors)))
      (script_differ script.actors (differ_pairs script.actors is.distinct));
  stores = new_stores script.actors;
}
