-- What holds of every move on a task, whatever its cell in the table says.
use Rattle.std.specs.Prelude.{◌≡◌, ◌↔◌, Bool, true, false, IsTrue}
use Rattle.crash_backoff.specs.declared.moment.Moment.{Moment}
use Rattle.task_records.specs.States.{is_unfinished, is_completed}
use Rattle.task_records.specs.declared.move_end.TaskEnd.{TaskEnd}
use Rattle.task_records.specs.declared.move_end.TaskEnd.TheVariants.{Changed, Gone, Same, Refused}
use Rattle.task_records.specs.declared.move_kind.TaskMove.{TaskMove}
use Rattle.task_records.specs.declared.move_kind.TaskMove.TheVariants.{Start, Complete, Cancel, Resolve, Delete, Kick, Expire}
use Rattle.task_records.specs.declared.task.Task.{Task}

-- the task gets its outcome: it was PENDING or RUNNING, and is COMPLETED
pub record IsCompletion (old new : Task) : Type 0 where
  pub before : IsTrue (is_unfinished old.state)
  pub after : IsTrue (is_completed new.state)

-- the two are one task at two times, so that only its state and the moment may differ
pub record IsSameTask (old new : Task) : Type 0 where
  pub name : new.name ≡ old.name
  pub birth : new.birth ≡ old.birth
  pub memory : new.memory ≡ old.memory
  pub disk : new.disk ≡ old.disk
  pub tag : new.tag ≡ old.tag

-- what a change leaves: the same task, since now in its state
pub record IsChangedAt (old : Task) (now : Moment) (new : Task) : Type 0 where
  pub task : IsSameTask old new
  pub since : new.since ≡ now

-- a changed row is that of the same task, and says since when
abbrev pub KeepsTask : Task → Moment → TaskEnd → Type 0
KeepsTask row now (Changed new) = IsChangedAt row now new
KeepsTask row now Gone = Unit {0}
KeepsTask row now Same = Unit {0}
KeepsTask row now (Refused refusal) = Unit {0}

-- a task that has its outcome never waits for one again
abbrev pub NeverTurnsBack : Task → TaskEnd → Type 0
NeverTurnsBack row (Changed new) = IsTrue (is_unfinished new.state) → IsTrue (is_unfinished row.state)
NeverTurnsBack row Gone = Unit {0}
NeverTurnsBack row Same = Unit {0}
NeverTurnsBack row (Refused refusal) = Unit {0}

-- whether the move asks for an outcome
abbrev pub asks_for_outcome : TaskMove → Bool
asks_for_outcome (Start instance cell) = false
asks_for_outcome (Complete instance failed) = true
asks_for_outcome Cancel = true
asks_for_outcome Resolve = false
asks_for_outcome Delete = false
asks_for_outcome Kick = false
asks_for_outcome Expire = false

-- a change is a completion exactly where the move is Complete or Cancel
abbrev pub CompletesAsAsked : Task → TaskMove → TaskEnd → Type 0
CompletesAsAsked row move (Changed new) = IsCompletion row new ↔ IsTrue (asks_for_outcome move)
CompletesAsAsked row move Gone = Unit {0}
CompletesAsAsked row move Same = Unit {0}
CompletesAsAsked row move (Refused refusal) = Unit {0}
