-- What a turn does, and turns one after another.
use Rattle.std.specs.Prelude.{◌≡◌, ℕ, false, List, [], ◌∷◌, ◌++◌, Some, Result, Ok, Err}
use Rattle.bbs_model.specs.declared.command.Command.{Command}
use Rattle.cell_rep.specs.Acts.{drain_todo}
use Rattle.cell_rep.specs.Deliveries.{is_call_lost, IsDelivered}
use Rattle.cell_rep.specs.Follows.{Stage, Performs, Acts, IsStarted}
use Rattle.cell_rep.specs.Reps.{stopping}
use Rattle.cell_rep.specs.declared.call_end.CallEnd.TheVariants as end
use Rattle.cell_rep.specs.declared.call_end.Called.{Called}
use Rattle.cell_rep.specs.declared.call_end.RepRefusal.TheVariants.{Store}
use Rattle.cell_rep.specs.declared.rep.CellRep.{CellRep}
use Rattle.cell_tests.specs.declared.playing.Turn.{Turn}
use Rattle.cell_tests.specs.declared.playing.Turn.TheVariants as turn
use Rattle.container_store.specs.declared.refusal.StoreRefusal.{StoreRefusal}
use Rattle.crash_backoff.specs.declared.moment.Moment.{Moment}
use Rattle.diego_names.specs.declared.instance.Instance.{Instance}
use Rattle.evacuation.specs.Evacuation.{Evacuates}

-- somebody else called the board, over no wire, with that answer behind the others
pub record IsCallOfBoard (by : ℕ) (c : Command) (s s' : Stage) : Type 0 where
  pub answer : Called
  pub command : answer.command ≡ Some c
  pub heard : is_call_lost answer.end ≡ false
  pub called : IsDelivered by s.view c answer.end s'.view
  pub stays : s' ≡ record s { view = s'.view; out = s.out ++ answer ∷ [] }

-- the answer to a stop, and the rep after it
abbrev pub IsStopAnswer : Result CellRep StoreRefusal → CellRep → CellRep → Called → Type 0
IsStopAnswer (Ok left) rep rep' answer = (rep' ≡ left) × (answer.end ≡ end.Idle)
IsStopAnswer (Err why) rep rep' answer = (rep' ≡ rep) × (answer.end ≡ end.Local (Store why))

-- a container was given up, if it was there
pub record IsGivenUp (i : Instance) (s s' : Stage) : Type 0 where
  pub answer : Called
  pub stopped : IsStopAnswer (stopping s.rep i) s.rep s'.rep answer
  pub stays : s' ≡ record s { rep = s'.rep; out = s.out ++ answer ∷ [] }

-- what a turn does, at a moment
abbrev pub IsTaken : ℕ → Turn → Moment → Stage → Stage → Type 0
IsTaken by (turn.Board o) now s s' = IsCallOfBoard by (record { now = now; op = o }) s s'
IsTaken by (turn.Act act) now s s' = Acts by act now s s'
IsTaken by turn.Drain now s s' = Performs by s.rep.cell (drain_todo now s.rep.cell s.rep.joined ∷ []) s s'
IsTaken by turn.Evacuate now s s' = Evacuates by now s s'
IsTaken by (turn.Start job) now s s' = IsStarted by job now s s'
IsTaken by (turn.Stop i) now s s' = IsGivenUp i s s'

-- the turn has one answer always
abbrev pub HasOneAnswer : Turn → Type 0
HasOneAnswer (turn.Act act) = ⊥
HasOneAnswer turn.Evacuate = ⊥
HasOneAnswer t = Unit {0}

-- turns one after another
abbrev pub ArePlayed : ℕ → List Turn → Moment → Stage → Stage → Type 0
ArePlayed by [] now s s' = s' ≡ s
ArePlayed by (t ∷ ts) now s s' = (m : Stage) × IsTaken by t now s m × ArePlayed by ts now m s'
