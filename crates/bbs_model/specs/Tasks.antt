-- What is asked of tasks.
use Rattle.std.specs.Prelude.{ℕ, List, [], ◌∷◌, nat_le, Option, is_some}
use Rattle.crash_backoff.specs.declared.moment.Moment.{Moment}
use Rattle.task_records.specs.Moves.{task_move}
use Rattle.task_records.specs.declared.move_end.TaskEnd.{TaskEnd}
use Rattle.task_records.specs.declared.move_end.TaskEnd.TheVariants as end
use Rattle.task_records.specs.declared.move_kind.TaskMove.{TaskMove}
use Rattle.task_records.specs.declared.state.TaskState.TheVariants.{Pending}
use Rattle.task_records.specs.declared.task.Task.{Task}
use Rattle.bbs_model.specs.Attempts.{Refusals, unless_refused, if_known, if_joined, put, drop_row}
use Rattle.bbs_model.specs.Limits.{most_tasks}
use Rattle.bbs_model.specs.declared.attempt.Attempt.{Attempt}
use Rattle.bbs_model.specs.declared.attempt.Attempt.TheVariants.{Refuse, Keep}
use Rattle.bbs_model.specs.declared.event.Row.TheVariants as row
use Rattle.bbs_model.specs.declared.found.Found.{Found}
use Rattle.bbs_model.specs.declared.verdict.BoardRefusal.TheVariants as why

-- why a task can't be made
abbrev pub new_task_refusals : Found → Refusals
new_task_refusals found =
    (is_some found.task, why.Exists)
    ∷ (nat_le most_tasks found.counts.tasks, why.TooMany most_tasks)
    ∷ []

-- a task begins: PENDING since this moment, and born at the board's next transition
abbrev pub new_task : Found → List ℕ → ℕ → ℕ → Option (List ℕ) → Moment → Attempt
new_task found name memory disk tag now = unless_refused (new_task_refusals found) (put (row.Task (record {
  name = name;
  birth = found.next;
  state = Pending;
  since = now;
  memory = memory;
  disk = disk;
  tag = tag;
})))

-- what a move's end comes to
abbrev pub task_moved_to : Task → TaskEnd → Attempt
task_moved_to old (end.Changed new) = put (row.Task new)
task_moved_to old end.Gone = drop_row (row.Task old)
task_moved_to old end.Same = Keep
task_moved_to old (end.Refused because) = Refuse (why.Task because)

-- a move on a task
abbrev pub move_task : Found → TaskMove → Moment → Attempt
move_task found move now = if_known found.task (λ old. task_moved_to old (task_move old move now))

-- a move that a cell makes for its container of this epoch
abbrev pub move_task_by_cell : Found → ℕ → TaskMove → Moment → Attempt
move_task_by_cell found epoch move now = if_known found.task (λ old.
    if_joined found.cell epoch (λ cell. task_moved_to old (task_move old move now)))
