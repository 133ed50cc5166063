use Rattle.std.proofs.Common.{◌≡◌, ◌++◌, drop}
use Rattle.text_table.specs.Layout.{columns_from}
use Rattle.text_table.specs.Texts.{texts_of}
use Rattle.text_table.proofs.columns.columns_of.Given as goal

abbrev pub invariant-loop-at : goal.invariant-loop-at
invariant-loop-at l =
    l.columns.items ++ columns_from l.at (drop l.at l.sides) (texts_of l.rows)
    ≡ columns_from 0 l.sides (texts_of l.rows)
