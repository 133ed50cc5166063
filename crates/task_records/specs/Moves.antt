-- The moves on a task, state by state. The states are Diego's, the cases and the seconds this project's own.
use Rattle.std.specs.Prelude.{Bool}
use Rattle.crash_backoff.specs.declared.moment.Moment.{Moment}
use Rattle.diego_names.specs.declared.instance.Instance.{Instance}
use Rattle.task_records.specs.Steps.{task_turned, cancelled, task_wrong_state, if_own_task, once_due}
use Rattle.task_records.specs.declared.move_end.TaskEnd.{TaskEnd}
use Rattle.task_records.specs.declared.move_end.TaskEnd.TheVariants.{Gone, Same}
use Rattle.task_records.specs.declared.move_kind.TaskMove.{TaskMove}
use Rattle.task_records.specs.declared.move_kind.TaskMove.TheVariants.{Start, Complete, Cancel, Resolve, Delete, Kick, Expire}
use Rattle.task_records.specs.declared.state.TaskState.{TaskState}
use Rattle.task_records.specs.declared.state.TaskState.TheVariants.{Pending, Running, Completed, Resolving}
use Rattle.task_records.specs.declared.task.Task.{Task}

-- a move on a PENDING task
abbrev pub from_pending : Task → TaskMove → Moment → TaskEnd
from_pending row (Start instance cell) now = task_turned row (Running instance cell) now
from_pending row (Complete instance failed) now = task_wrong_state row
from_pending row Cancel now = cancelled row now
from_pending row Resolve now = task_wrong_state row
from_pending row Delete now = task_wrong_state row
from_pending row Kick now = task_wrong_state row
from_pending row Expire now = task_wrong_state row

-- a move on a task that a container is RUNNING
abbrev pub task_from_running : Task → Instance → TaskMove → Moment → TaskEnd
task_from_running row held (Start instance cell) now = if_own_task instance held Same
task_from_running row held (Complete instance failed) now = if_own_task instance held (task_turned row (Completed failed) now)
task_from_running row held Cancel now = cancelled row now
task_from_running row held Resolve now = task_wrong_state row
task_from_running row held Delete now = task_wrong_state row
task_from_running row held Kick now = task_wrong_state row
task_from_running row held Expire now = task_wrong_state row

-- a move on a COMPLETED task with that outcome
abbrev pub from_completed : Task → Bool → TaskMove → Moment → TaskEnd
from_completed row outcome (Start instance cell) now = task_wrong_state row
from_completed row outcome (Complete instance failed) now = task_wrong_state row
from_completed row outcome Cancel now = task_wrong_state row
from_completed row outcome Resolve now = task_turned row (Resolving outcome) now
from_completed row outcome Delete now = task_wrong_state row
from_completed row outcome Kick now = task_wrong_state row
from_completed row outcome Expire now = once_due row 120 now Gone

-- a move on a RESOLVING task with that outcome
abbrev pub from_resolving : Task → Bool → TaskMove → Moment → TaskEnd
from_resolving row outcome (Start instance cell) now = task_wrong_state row
from_resolving row outcome (Complete instance failed) now = task_wrong_state row
from_resolving row outcome Cancel now = task_wrong_state row
from_resolving row outcome Resolve now = task_wrong_state row
from_resolving row outcome Delete now = Gone
from_resolving row outcome Kick now = once_due row 30 now (task_turned row (Completed outcome) now)
from_resolving row outcome Expire now = task_wrong_state row

-- a move on a task, by its state
abbrev pub task_from_state : TaskState → Task → TaskMove → Moment → TaskEnd
task_from_state Pending row move now = from_pending row move now
task_from_state (Running instance cell) row move now = task_from_running row instance move now
task_from_state (Completed failed) row move now = from_completed row failed move now
task_from_state (Resolving failed) row move now = from_resolving row failed move now

-- how a move on a task ends
abbrev pub task_move : Task → TaskMove → Moment → TaskEnd
task_move row move now = task_from_state row.state row move now
