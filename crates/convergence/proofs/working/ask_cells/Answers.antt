use Rattle.std.proofs.Common.{◌∙◌, ◌++◌, ap, Option}
use Rattle.std.specs.Option.{option_map, option_to_list}
use Rattle.bbs_model.specs.Work.{at, cell_work}
use Rattle.bbs_model.specs.declared.command.Command.{Command}
use Rattle.cell_records.specs.declared.cell_row.CellRow.{CellRow}
use Rattle.convergence.proofs.Lists.{asked_more}
use Rattle.convergence.proofs.working.ask_cells.Goals as goal

pub loop-cell-preserved : goal.loop-cell-preserved
loop-cell-preserved c =
    c.in_ok-add.ensures
    ∙ ap (λ (o : Option Command). c.loop-cell.asked ++ option_to_list o)
    (c.command_at.ensures ∙ ap (option_map (at c.args.now)) c.cell_work.ensures)
    ∙ asked_more (λ (r : CellRow). cell_work r c.args.now)
    (at c.args.now) c.args.cells.now c.loop-cell.cell-index c.cell-item.result c.args.asked.now c.loop-cell.asked
    c.loop-cell-test.true c.cell-item.is c.loop-cell.invariant
