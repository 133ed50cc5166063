use Rattle.std.proofs.Common.{◌≡◌, ◌++◌}
use Rattle.text_table.specs.Layout.{spaces}
use Rattle.text_table.proofs.lines.add_spaces.Given as goal

abbrev pub invariant-loop-at : goal.invariant-loop-at
invariant-loop-at l = l.text.items ≡ l.fn.text.items ++ spaces l._at
