-- Cells that have joined have stores, through acts, phases and rounds.
use Rattle.std.proofs.Common.{◌≡◌, ℕ, zero, suc, ◌<◌, Bool, true, false, List, [], ◌∷◌, length, Option, Some, refl, sym, ap, subst, arith, ⊎_elim}
use Rattle.std.specs.List.{Contains, slice_get}
use Rattle.std.specs.Prelude.{MatchBool}
use Rattle.bbs_model.specs.PortView.{PortView}
use Rattle.cell_rep.specs.Acts.{begun, drain_todo, plan}
use Rattle.cell_rep.specs.Follows.{Acts, Follows, Performs, Stage, after_todo, moved_by, stage}
use Rattle.cell_rep.specs.Laws.{HasStore}
use Rattle.cell_rep.specs.Wires.{WireEnds}
use Rattle.cell_rep.specs.declared.call_end.Called.{Called}
use Rattle.cell_rep.specs.declared.cell_act.CellAct.{CellAct}
use Rattle.cell_rep.specs.declared.cell_act.CellAct.TheVariants as act
use Rattle.cell_rep.specs.declared.rep.CellRep.{CellRep}
use Rattle.cell_rep.specs.declared.todo.Todo.{Todo}
use Rattle.converge_laws.proofs.Public.{first_or_rest, inside_first, inside_rest}
use Rattle.converge_round.specs.Askings.{StandApart}
use Rattle.converge_round.specs.Reps.{names_of}
use Rattle.crash_backoff.specs.declared.moment.Moment.{Moment}
use Rattle.evacuation.specs.Evacuation.{Evacuates, is_agreed}
use Rattle.scenario_lines.specs.declared.act.Act.{Act}
use Rattle.scenario_lines.specs.declared.act.Act.TheVariants as line
use Rattle.scenario_lines.specs.declared.act.Loss.{Loss}
use Rattle.scenario_lines.specs.declared.answered.Answered.{Answered}
use Rattle.phase_actors.specs.Marks.{ends_under}
use Rattle.phase_actors.specs.Runs.{AsCell, HasActed, HasRun, IsOneActor}
use Rattle.phase_actors.specs.Turns.{TakesTurns, Turn}
use Rattle.phase_actors.specs.declared.actor_state.ActorState.{ActorState}
use Rattle.phase_actors.specs.declared.actor_state.ActorState.TheVariants as actor
use Rattle.phase_runs.specs.Actors.{AreSameActors}
use Rattle.phase_runs.specs.Reps.{reps_of}
use Rattle.run_function.specs.RoundLaws.{AreReps}
use Rattle.run_function.proofs.ByNumber.{at_there}
use Rattle.run_function.proofs.Stored.{begun_keeps, todo_keeps}

followed_keeps : (by : ℕ) (cell : List ℕ) (ends : Option WireEnds) (ts : List Todo) (rep : CellRep) (v : PortView)
    (new : List Called) (rep' : CellRep) (w : PortView)
    → Follows by cell ends ts rep v new rep' w → HasStore rep.joined → HasStore rep'.joined
followed_keeps by cell ends [] rep v [] rep' w f k = subst (λ (r : CellRep). HasStore r.joined) (sym f.0) k
followed_keeps by cell ends [] rep v (a ∷ as') rep' w f k = absurd f
followed_keeps by cell ends (t ∷ ts) rep v [] rep' w f k = absurd f
followed_keeps by cell ends (t ∷ ts) rep v (a ∷ as') rep' w f k =
    followed_keeps by cell (moved_by t ends) ts (after_todo t a.end rep) f.0 as' rep' w f.3 (todo_keeps t a.end rep k)

performed_keeps : (by : ℕ) (cell : List ℕ) (ts : List Todo) (s s' : Stage) → Performs by cell ts s s'
    → HasStore s.rep.joined → HasStore s'.rep.joined
performed_keeps by cell ts s s' h k = followed_keeps by cell s.ends ts s.rep s.view h.new s'.rep s'.view h.follows k

acted_keeps : (by : ℕ) (a : CellAct) (now : Moment) (s s' : Stage) → Acts by a now s s' → HasStore s.rep.joined
    → HasStore s'.rep.joined
acted_keeps by a now s s' h k = performed_keeps by s.rep.cell (plan a now s.rep) (record s { rep = begun a s.rep }) s' h
    (begun_keeps a s.rep k)

settled_keeps : (b : Bool) (by : ℕ) (now : Moment) (m w : Stage) → MatchBool b (Acts by act.Settle now m w) (w ≡ m)
    → HasStore m.rep.joined → HasStore w.rep.joined
settled_keeps true by now m w h k = acted_keeps by act.Settle now m w h k
settled_keeps false by now m w h k = subst (λ (s : Stage). HasStore s.rep.joined) (sym h) k

evacuated_keeps : (by : ℕ) (now : Moment) (s w : Stage) → Evacuates by now s w → HasStore s.rep.joined
    → HasStore w.rep.joined
evacuated_keeps by now s w h k =
    settled_keeps (is_agreed h.answer.end) by now h.middle w h.settled
    (performed_keeps by s.rep.cell (drain_todo now s.rep.cell s.rep.joined ∷ []) s h.middle h.drained.performs k)

-- an actor that is a cell has a store if it has joined
abbrev pub ActorHasStore : ActorState → Type 0
ActorHasStore (actor.Client name) = Unit {0}
ActorHasStore (actor.Cell rep) = HasStore rep.joined

cell_keeps : (Does : Stage → Stage → Type 0) → ((s s' : Stage) → Does s s' → HasStore s.rep.joined
    → HasStore s'.rep.joined)
    → (mark : Option Loss) (rep : CellRep) (a' : ActorState) (v w : PortView) (new : List Called)
    → AsCell a' (λ rep'. HasActed Does mark rep rep' v w new)
    → HasStore rep.joined → ActorHasStore a'
cell_keeps Does keeps mark rep (actor.Client name) v w new h k = absurd h
cell_keeps Does keeps mark rep (actor.Cell rep') v w new h k =
    keeps (stage rep v (ends_under mark) 0 []) (stage rep' w h.ends h.losses new) h.does k

run_keeps : (by : ℕ) (now : Moment) (d : Act) (mark : Option Loss) (a a' : ActorState) (v w : PortView)
    (new : List Called)
    → HasRun by now d mark a a' v w new → ActorHasStore a → ActorHasStore a'
run_keeps by now (line.Client op) mark (actor.Client name) a' v w new h k = subst ActorHasStore (sym h.0) k
run_keeps by now (line.Client op) mark (actor.Cell rep) a' v w new h k = absurd h
run_keeps by now (line.Cell d) mark (actor.Client name) a' v w new h k = absurd h
run_keeps by now (line.Cell d) mark (actor.Cell rep) a' v w new h k =
    cell_keeps (Acts by d now) (acted_keeps by d now) mark rep a' v w new h k
run_keeps by now line.Evacuate mark (actor.Client name) a' v w new h k = absurd h
run_keeps by now line.Evacuate mark (actor.Cell rep) a' v w new h k =
    cell_keeps (Evacuates by now) (evacuated_keeps by now) mark rep a' v w new h k

pub turns_keep : (by : ℕ) (now : Moment) (ts : List Turn) (a a' : ActorState) (v w : PortView) (new : List Answered)
    → TakesTurns by now ts a v new a' w
    → ActorHasStore a → ActorHasStore a'
turns_keep by now [] a a' v w new f k = subst ActorHasStore (sym f.1.0) k
turns_keep by now (t ∷ ts) a a' v w new f k =
    turns_keep by now ts f.2 a' f.3 w f.1 f.6 (run_keeps by now t.act t.mark a f.2 v f.3 f.0 f.5 k)

-- where a rep stands among the actors
pub rep_inside : (xs : List ActorState) (k : ℕ) (r : CellRep) → slice_get xs k ≡ Some (actor.Cell r)
    → Contains (reps_of xs) r
rep_inside [] k r e = absurd cc
rep_inside (actor.Client name ∷ xs) zero r e = absurd cc
rep_inside (actor.Cell q ∷ xs) zero r e = let same : q ≡ r = cc in
    subst (Contains (q ∷ reps_of xs)) same (inside_first q (reps_of xs))
rep_inside (actor.Client name ∷ xs) (suc k) r e = rep_inside xs k r e
rep_inside (actor.Cell q ∷ xs) (suc k) r e = inside_rest r q (reps_of xs) (rep_inside xs k r e)

pub rep_place : (xs : List ActorState) (r : CellRep) → Contains (reps_of xs) r
    → (k : ℕ) × (k < length xs) × (slice_get xs k ≡ Some (actor.Cell r))
rep_place [] r inside = absurd (omega (arith, inside.1))
rep_place (actor.Client name ∷ xs) r inside = let there = rep_place xs r inside in
    (suc there.0, omega (arith, there.1), there.2)
rep_place (actor.Cell q ∷ xs) r inside = ⊎_elim
    (λ (same : q ≡ r). (0, omega arith, ap (λ (x : CellRep). Some (actor.Cell x)) same))
    (λ (rest : Contains (reps_of xs) r). let there = rep_place xs r rest in
    (suc there.0, omega (arith, there.1), there.2))
    (first_or_rest r q (reps_of xs) inside)

-- actors that stay the same keep the names of their cells
head_named : (a a' : ActorState) (xs ys : List ActorState) → IsOneActor a a'
    → names_of (reps_of ys) ≡ names_of (reps_of xs) → names_of (reps_of (a' ∷ ys)) ≡ names_of (reps_of (a ∷ xs))
head_named (actor.Client name) (actor.Client other) xs ys one rest = rest
head_named (actor.Client name) (actor.Cell rep) xs ys one rest = absurd one
head_named (actor.Cell rep) (actor.Client name) xs ys one rest = absurd one
head_named (actor.Cell rep) (actor.Cell other) xs ys one rest = λ i. one i ∷ rest i

pub names_same : (xs ys : List ActorState) → length ys ≡ length xs
    → ((k : ℕ) (a a' : ActorState) → slice_get xs k ≡ Some a → slice_get ys k ≡ Some a' → IsOneActor a a')
    → names_of (reps_of ys) ≡ names_of (reps_of xs)
names_same [] [] len one = refl
names_same [] (y ∷ ys) len one = absurd (omega (arith, len))
names_same (x ∷ xs) [] len one = absurd (omega (arith, len))
names_same (x ∷ xs) (y ∷ ys) len one =
    head_named x y xs ys (one 0 x y refl refl) (names_same xs ys (omega (arith, len))
    (λ k a a' old new. one (suc k) a a' old new))

-- a cell that was one before had a store then
was_stored : (a : ActorState) (r : CellRep) → IsOneActor a (actor.Cell r) → (xs : List ActorState) (k : ℕ)
    → slice_get xs k ≡ Some a → AreReps (reps_of xs) → ActorHasStore a
was_stored (actor.Client name) r one xs k at are = absurd one
was_stored (actor.Cell q) r one xs k at are = are.stores q (rep_inside xs k q at)

pub same_reps : (xs ys : List ActorState) → AreSameActors xs ys → AreReps (reps_of xs)
    → ((k : ℕ) (a a' : ActorState) → slice_get xs k ≡ Some a → slice_get ys k ≡ Some a' → ActorHasStore a
    → ActorHasStore a') → AreReps (reps_of ys)
same_reps xs ys same are keeps = record {
  apart = subst StandApart (sym (names_same xs ys same.length_is same.one)) are.apart;
  stores = λ r inside.
      let there = rep_place ys r inside in
      let old = at_there xs there.0 (omega (arith, there.1, same.length_is)) in
      keeps there.0 old.0 (actor.Cell r) old.1 there.2
      (was_stored old.0 r (same.one there.0 old.0 (actor.Cell r) old.1 there.2) xs there.0 old.1 are);
}
