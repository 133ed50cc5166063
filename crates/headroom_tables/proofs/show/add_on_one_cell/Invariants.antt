use Rattle.std.proofs.Common.{◌≡◌, ◌++◌, map, take}
use Rattle.text_table.specs.Texts.{texts_of}
use Rattle.headroom_tables.specs.ShowTables.{one_cell_row}
use Rattle.headroom_tables.proofs.show.add_on_one_cell.Given as goal

abbrev pub invariant-loop-process : goal.invariant-loop-process
invariant-loop-process l =
    texts_of l.rows.items
    ≡ texts_of l.fn.rows.items ++ map one_cell_row (take l.process-index l.processes)
