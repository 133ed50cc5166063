-- A task gets one outcome at most.
use Rattle.std.proofs.Common.{◌≡◌, ℕ, ◌≤◌, ◌↔◌, List, [], ◌∷◌, true, false, IsTrue, refl, arith}
use Rattle.std.proofs.lemmas.Grind.{common_steps}
use Rattle.crash_backoff.specs.declared.moment.Moment.{Moment}
use Rattle.task_records.specs.Laws.{IsCompletion, NeverTurnsBack}
use Rattle.task_records.specs.Life.{is_completion, completions_from, outcomes}
use Rattle.task_records.specs.Moves.{task_move}
use Rattle.task_records.specs.States.{is_unfinished, is_completed}
use Rattle.task_records.specs.declared.move_end.TaskEnd.{TaskEnd}
use Rattle.task_records.specs.declared.move_end.TaskEnd.TheVariants.{Changed, Gone, Same, Refused}
use Rattle.task_records.specs.declared.move_kind.TaskMove.{TaskMove}
use Rattle.task_records.specs.declared.state.TaskState.{TaskState}
use Rattle.task_records.specs.declared.state.TaskState.TheVariants.{Pending, Running, Completed, Resolving}
use Rattle.task_records.specs.declared.task.Task.{Task}
use Rattle.task_records.proofs.MoveLaws.{NeverTurnsBack-task_move}

-- the test and the fact say the same
pub is_completion-IsCompletion : (old new : Task) → IsTrue (is_completion old new) ↔ IsCompletion old new
is_completion-IsCompletion old new = grind (arith, common_steps)

-- a COMPLETED task has its outcome
pub completed_is_finished : (state : TaskState) → is_completed state ≡ true → is_unfinished state ≡ false
completed_is_finished Pending e = cc
completed_is_finished (Running instance cell) e = cc
completed_is_finished (Completed failed) e = refl
completed_is_finished (Resolving failed) e = refl

-- a task that has its outcome gets none by a move, and none by what comes after it
none_from : (row : Task) (end : TaskEnd) (later : Task → ℕ) → NeverTurnsBack row end → is_unfinished row.state ≡ false
    → ((new : Task) → is_unfinished new.state ≡ false → later new ≡ 0) → completions_from row end later ≡ 0
none_from row (Changed new) later back e none = grind (arith, common_steps)
none_from row Gone later back e none = refl
none_from row Same later back e none = none row e
none_from row (Refused refusal) later back e none = none row e

none_after : (moves : List (TaskMove × Moment)) (row : Task) → is_unfinished row.state ≡ false → outcomes row moves ≡ 0
none_after [] row e = refl
none_after (move ∷ moves) row e =
    none_from row (task_move row move.0 move.1) (λ new. outcomes new moves)
    (NeverTurnsBack-task_move row move.0 move.1) e (none_after moves)

-- a move gives an outcome only where what comes after it gives none
once_from : (row : Task) (end : TaskEnd) (later : Task → ℕ)
    → ((new : Task) → is_unfinished new.state ≡ false → later new ≡ 0) → ((new : Task) → later new ≤ 1)
    → completions_from row end later ≤ 1
once_from row (Changed new) later none once = grind (arith, common_steps, completed_is_finished)
once_from row Gone later none once = omega arith
once_from row Same later none once = once row
once_from row (Refused refusal) later none once = once row

pub completions-once : (moves : List (TaskMove × Moment)) (row : Task) → outcomes row moves ≤ 1
completions-once [] row = omega arith
completions-once (move ∷ moves) row =
    once_from row (task_move row move.0 move.1) (λ new. outcomes new moves) (none_after moves) (completions-once moves)
