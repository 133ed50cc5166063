use Rattle.std.proofs.Common.{◌≡◌, ◌++◌, drop}
use Rattle.text_table.specs.Layout.{filled_from}
use Rattle.text_table.specs.Texts.{entries_of}
use Rattle.text_table.proofs.lines.filled.Given as goal

abbrev pub invariant-loop-at : goal.invariant-loop-at
invariant-loop-at l =
    l.text.items ++ filled_from l.at (drop l.at l.columns) (entries_of l.row)
    ≡ filled_from 0 l.columns (entries_of l.row)
