use Rattle.std.proofs.Common.{◌≡◌, ◌++◌, take}
use Rattle.std.specs.List.{filter_map}
use Rattle.converge_round.specs.Jobs.{task_job}
use Rattle.converge_round.proofs.jobs.add_tasks.Given as goal

abbrev pub invariant-loop-task : goal.invariant-loop-task
invariant-loop-task l = l.jobs ≡ l.fn.jobs ++ filter_map (task_job) (take l.task-index l.tasks)
