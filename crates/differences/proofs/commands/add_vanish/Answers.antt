use Rattle.std.proofs.Common.{◌++◌, Option, ap, ◌∙◌}
use Rattle.std.specs.Option.{option_map, option_to_list}
use Rattle.bbs_model.specs.Work.{at}
use Rattle.bbs_model.specs.declared.command.Command.{Command}
use Rattle.convergence.proofs.Public.{asked_more}
use Rattle.differences.specs.Commands.{vanish}
use Rattle.differences.proofs.commands.add_vanish.Goals as goal

pub loop-cell-preserved : goal.loop-cell-preserved
loop-cell-preserved c =
    c.in_ok-add.ensures
    ∙ ap (λ (o : Option Command). c.loop-cell.list ++ option_to_list o)
    (c.command_at.ensures ∙ ap (option_map (at c.args.now)) c.vanish.ensures)
    ∙ asked_more vanish (at c.args.now) c.args.cells.now c.loop-cell.cell-index c.cell-item.result c.args.list.now
    c.loop-cell.list c.loop-cell-test.true c.cell-item.is c.loop-cell.invariant
