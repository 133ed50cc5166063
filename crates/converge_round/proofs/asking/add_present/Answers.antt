use Rattle.std.proofs.Common.{◌∙◌, ap, ◌++◌, Option}
use Rattle.std.specs.Option.{option_to_list}
use Rattle.cell_records.specs.declared.cell_row.CellRow.{CellRow}
use Rattle.converge_round.specs.Askings.{present_at}
use Rattle.converge_round.proofs.Lists.{kept_more}
use Rattle.converge_round.proofs.asking.add_present.Goals as goal

pub loop-row-preserved : goal.loop-row-preserved
loop-row-preserved c =
    kept_more (present_at c.args.now) c.args.rows.now c.loop-row.row-index c.row-item.result c.args.present.now
    c.loop-row.present _ c.loop-row-test.true c.row-item.is c.loop-row.invariant
    (c.in_ok-add.ensures ∙ ap (λ (o : Option CellRow). c.loop-row.present ++ option_to_list o) c.present_at.ensures)
