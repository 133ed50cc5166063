-- The laws of moves, for whoever speaks of the table alone.
use Rattle.std.proofs.Common.{arith}
use Rattle.std.proofs.lemmas.Grind.{common_steps}
use Rattle.crash_backoff.specs.declared.moment.Moment.{Moment}
use Rattle.task_records.specs.Laws.{KeepsTask, NeverTurnsBack, CompletesAsAsked}
use Rattle.task_records.specs.Moves.{task_move}
use Rattle.task_records.specs.declared.move_kind.TaskMove.{TaskMove}
use Rattle.task_records.specs.declared.task.Task.{Task}

-- a changed row is that of the same task, and says since when
pub KeepsTask-task_move : (row : Task) (move : TaskMove) (now : Moment) → KeepsTask row now (task_move row move now)
KeepsTask-task_move row move now = grind (arith, common_steps)

-- a task that has its outcome never waits for one again
pub NeverTurnsBack-task_move : (row : Task) (move : TaskMove) (now : Moment)
    → NeverTurnsBack row (task_move row move now)
NeverTurnsBack-task_move row move now = grind (arith, common_steps)

-- a change is a completion exactly where the move is Complete or Cancel
pub CompletesAsAsked-task_move : (row : Task) (move : TaskMove) (now : Moment)
    → CompletesAsAsked row move (task_move row move now)
CompletesAsAsked-task_move row move now = grind (arith, common_steps)
