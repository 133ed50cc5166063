use Rattle.std.proofs.Common.{◌≡◌, max, drop}
use Rattle.text_table.specs.Layout.{width_of}
use Rattle.text_table.specs.Texts.{texts_of}
use Rattle.text_table.proofs.columns.width.Given as goal

abbrev pub invariant-loop-row : goal.invariant-loop-row
invariant-loop-row l =
    max l.width (width_of (texts_of (drop l.row-index l.rows)) l.at)
    ≡ width_of (texts_of l.rows) l.at
