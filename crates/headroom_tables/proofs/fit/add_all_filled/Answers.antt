use Rattle.std.proofs.Common.{◌≡◌, map, arith}
use Rattle.std.proofs.lemmas.Grind.{common_steps}
use Rattle.text_table.specs.Texts.{texts_of}
use Rattle.headroom_tables.specs.FitTables.{filled_columns, filled_row}
use Rattle.headroom_tables.proofs.Told.{rows_told}
use Rattle.headroom_tables.proofs.fit.add_all_filled.Goals as goal

pub returns : goal.returns
unfolding filled_columns
returns c =
    let same : texts_of c.loop-cell.rows.items ≡ map filled_row c.args.cells.now = grind (arith, common_steps) in
    rows_told c.add_table.result c.args.text.now.items c.add_table.new.text.items filled_columns _ _ same
    c.add_table.ensures
