-- A task under many moves, each at its moment.
use Rattle.std.specs.Prelude.{ℕ, ◌+◌, ◌&&◌, Bool, List, [], ◌∷◌, if◌then◌else◌}
use Rattle.crash_backoff.specs.declared.moment.Moment.{Moment}
use Rattle.task_records.specs.Moves.{task_move}
use Rattle.task_records.specs.States.{is_unfinished, is_completed}
use Rattle.task_records.specs.declared.move_end.TaskEnd.{TaskEnd}
use Rattle.task_records.specs.declared.move_end.TaskEnd.TheVariants.{Changed, Gone, Same, Refused}
use Rattle.task_records.specs.declared.move_kind.TaskMove.{TaskMove}
use Rattle.task_records.specs.declared.task.Task.{Task}

-- whether the task gets its outcome between the two
abbrev pub is_completion : Task → Task → Bool
is_completion old new = is_unfinished old.state && is_completed new.state

-- how often the task gets an outcome by a move that ends so, and then by what comes after it
abbrev pub completions_from : Task → TaskEnd → (Task → ℕ) → ℕ
completions_from row (Changed new) later = (if is_completion row new then 1 else 0) + later new
completions_from row Gone later = 0
completions_from row Same later = later row
completions_from row (Refused refusal) later = later row

-- how often the task gets an outcome by these moves
abbrev pub outcomes : Task → List (TaskMove × Moment) → ℕ
outcomes row [] = 0
outcomes row (move ∷ moves) =
    completions_from row (task_move row move.0 move.1) (λ new. outcomes new moves)
