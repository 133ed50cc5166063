use Rattle.task_records.proofs.LifeLaws.{is_completion-IsCompletion, completions-once}
use Rattle.task_records.proofs.laws.tasks_complete_once.Goals as goal

pub returns-clause-test : goal.returns-clause-test
returns-clause-test c = is_completion-IsCompletion

pub returns-clause-once : goal.returns-clause-once
returns-clause-once c row moves = completions-once moves row
