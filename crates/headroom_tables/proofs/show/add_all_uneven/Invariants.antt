use Rattle.std.proofs.Common.{◌≡◌, map, take}
use Rattle.text_table.specs.Texts.{texts_of}
use Rattle.headroom_tables.specs.ShowTables.{uneven_row}
use Rattle.headroom_tables.proofs.show.add_all_uneven.Given as goal

abbrev pub invariant-loop-process : goal.invariant-loop-process
invariant-loop-process l =
    texts_of l.rows.items ≡ map uneven_row (take l.process-index l.processes)
