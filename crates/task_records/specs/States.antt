-- What a task's state is called, and whether the task has its outcome.
use Rattle.std.specs.Prelude.{ℕ, Bool, true, false, List, Option, Some, None}
use Rattle.diego_names.specs.declared.instance.Instance.{Instance}
use Rattle.diego_names.specs.declared.state_name.StateName.{StateName}
use Rattle.diego_names.specs.declared.state_name.StateName.TheVariants as names
use Rattle.task_records.specs.declared.state.TaskState.{TaskState}
use Rattle.task_records.specs.declared.state.TaskState.TheVariants.{Pending, Running, Completed, Resolving}

-- the name of a state
abbrev pub task_state_name : TaskState → StateName
task_state_name Pending = names.Pending
task_state_name (Running instance cell) = names.Running
task_state_name (Completed failed) = names.Completed
task_state_name (Resolving failed) = names.Resolving

-- the container that has a task in that state
abbrev pub runner_of : TaskState → Option Instance
runner_of Pending = None
runner_of (Running instance cell) = Some instance
runner_of (Completed failed) = None
runner_of (Resolving failed) = None

-- the cell on which a container has a task in that state
abbrev pub task_cell_of : TaskState → Option (List ℕ)
task_cell_of Pending = None
task_cell_of (Running instance cell) = Some cell
task_cell_of (Completed failed) = None
task_cell_of (Resolving failed) = None

-- whether the task still waits for its outcome: it is PENDING or RUNNING
abbrev pub is_unfinished : TaskState → Bool
is_unfinished Pending = true
is_unfinished (Running instance cell) = true
is_unfinished (Completed failed) = false
is_unfinished (Resolving failed) = false

-- whether it is COMPLETED
abbrev pub is_completed : TaskState → Bool
is_completed Pending = false
is_completed (Running instance cell) = false
is_completed (Completed failed) = true
is_completed (Resolving failed) = false
