use Rattle.std.proofs.Common.{◌∙◌, ◌++◌, ap, Option}
use Rattle.std.specs.Option.{option_map, option_to_list}
use Rattle.bbs_model.specs.Work.{at, task_work}
use Rattle.bbs_model.specs.declared.command.Command.{Command}
use Rattle.convergence.proofs.Lists.{asked_more}
use Rattle.convergence.proofs.working.ask_tasks.Goals as goal

pub loop-task-preserved : goal.loop-task-preserved
loop-task-preserved c =
    c.in_ok-add.ensures
    ∙ ap (λ (o : Option Command). c.loop-task.asked ++ option_to_list o)
    (c.command_at.ensures ∙ ap (option_map (at c.args.now)) c.task_work.ensures)
    ∙ asked_more (task_work c.args.rows.now c.args.now) (at c.args.now) c.args.tasks.now c.loop-task.task-index
    c.task-item.result c.args.asked.now c.loop-task.asked c.loop-task-test.true c.task-item.is c.loop-task.invariant
