-- What a move makes of a task. Each field that is not named stays.
use Rattle.std.specs.Prelude.{ℕ, ◌+◌, ◌==◌, ◌&&◌, true, nat_le, if◌then◌else◌}
use Rattle.crash_backoff.specs.declared.moment.Moment.{Moment}
use Rattle.diego_names.specs.declared.instance.Instance.{Instance}
use Rattle.task_records.specs.States.{task_state_name}
use Rattle.task_records.specs.declared.move_end.TaskEnd.{TaskEnd}
use Rattle.task_records.specs.declared.move_end.TaskEnd.TheVariants.{Changed, Refused}
use Rattle.task_records.specs.declared.refusal.TaskRefusal.TheVariants.{WrongState, WrongInstance, NotDue}
use Rattle.task_records.specs.declared.state.TaskState.{TaskState}
use Rattle.task_records.specs.declared.state.TaskState.TheVariants.{Completed}
use Rattle.task_records.specs.declared.task.Task.{Task}

-- the task is in another state from now on
abbrev pub task_turned : Task → TaskState → Moment → TaskEnd
task_turned row state now = Changed (record row { state = state; since = now })

-- it is given up, which is a failure
abbrev pub cancelled : Task → Moment → TaskEnd
cancelled row now = task_turned row (Completed true) now

-- no such move leads from the task's state
abbrev pub task_wrong_state : Task → TaskEnd
task_wrong_state row = Refused (WrongState (task_state_name row.state))

-- that end where the move names the container that has the task, and else a refusal that names the one that has it
abbrev pub if_own_task : Instance → Instance → TaskEnd → TaskEnd
if_own_task instance held end =
    if instance.epoch == held.epoch && instance.number == held.number then end else Refused (WrongInstance held)

-- that end once so many seconds have passed since the last change, and else a refusal that names the second
abbrev pub once_due : Task → ℕ → Moment → TaskEnd → TaskEnd
once_due row seconds now end =
    if nat_le (row.since.0 + seconds) now.0 then end else Refused (NotDue (row.since.0 + seconds))
