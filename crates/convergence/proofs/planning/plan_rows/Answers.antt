use Rattle.std.proofs.Common.{◌∙◌, ◌++◌, ap, Option}
use Rattle.std.specs.Option.{option_map, option_to_list}
use Rattle.bbs_model.specs.Work.{at}
use Rattle.bbs_model.specs.declared.command.Command.{Command}
use Rattle.convergence.specs.Plans.{actual_plan}
use Rattle.convergence.proofs.Lists.{asked_more}
use Rattle.convergence.proofs.planning.plan_rows.Goals as goal

pub loop-row-preserved : goal.loop-row-preserved
loop-row-preserved c =
    c.in_ok-add.ensures
    ∙ ap (λ (o : Option Command). c.loop-row.asked ++ option_to_list o)
    (c.command_at.ensures ∙ ap (option_map (at c.args.now)) c.actual_plan.ensures)
    ∙ asked_more (actual_plan c.args.answers.now) (at c.args.now) c.args.rows.now c.loop-row.row-index c.row-item.result
    c.args.asked.now c.loop-row.asked c.loop-row-test.true c.row-item.is c.loop-row.invariant
