use Rattle.std.proofs.Common.{◌∙◌, ap, ◌++◌, Option}
use Rattle.std.specs.Option.{option_to_list}
use Rattle.cell_records.specs.declared.job.Job.{Job}
use Rattle.converge_round.specs.Jobs.{task_job}
use Rattle.converge_round.proofs.Lists.{kept_more}
use Rattle.converge_round.proofs.jobs.add_tasks.Goals as goal

pub loop-task-preserved : goal.loop-task-preserved
loop-task-preserved c =
    kept_more (task_job) c.args.tasks.now c.loop-task.task-index c.task-item.result c.args.jobs.now c.loop-task.jobs _
    c.loop-task-test.true c.task-item.is c.loop-task.invariant
    (c.in_ok-add.ensures ∙ ap (λ (o : Option Job). c.loop-task.jobs ++ option_to_list o) c.task_job.ensures)
