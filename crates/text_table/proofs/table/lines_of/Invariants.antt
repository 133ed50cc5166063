use Rattle.std.proofs.Common.{◌≡◌, ◌++◌, drop}
use Rattle.std.specs.List.{flat_map}
use Rattle.text_table.specs.Layout.{row_line}
use Rattle.text_table.specs.Texts.{texts_of}
use Rattle.text_table.proofs.table.lines_of.Given as goal

abbrev pub invariant-loop-row : goal.invariant-loop-row
invariant-loop-row l =
    l.text.items ++ flat_map (row_line l.columns.items) (texts_of (drop l.row-index l.rows))
    ≡ flat_map (row_line l.columns.items) (texts_of l.rows)
