use Rattle.std.proofs.Common.{◌≡◌, ◌++◌, map, take}
use Rattle.std.specs.List.{filter_map}
use Rattle.bbs_model.specs.Work.{at}
use Rattle.convergence.specs.Plans.{task_plan}
use Rattle.convergence.proofs.planning.plan_tasks.Given as goal

abbrev pub invariant-loop-task : goal.invariant-loop-task
invariant-loop-task l = l.asked ≡ l.fn.asked ++ map (at l.now)
    (filter_map (task_plan l.answers) (take l.task-index l.tasks))
