use Rattle.std.proofs.Common.{◌≡◌, map, take}
use Rattle.text_table.specs.Texts.{texts_of}
use Rattle.headroom_tables.specs.FitTables.{filled_row}
use Rattle.headroom_tables.proofs.fit.add_all_filled.Given as goal

abbrev pub invariant-loop-cell : goal.invariant-loop-cell
invariant-loop-cell l =
    texts_of l.rows.items ≡ map filled_row (take l.cell-index l.cells)
