use Rattle.std.proofs.Common.{◌≡◌, ◌++◌, take}
use Rattle.std.specs.List.{flat_map}
use Rattle.headroom_print.specs.FitLines.{filled_line}
use Rattle.headroom_print.proofs.line_kinds.fit.add_all_filled.Given as goal

abbrev pub invariant-loop-cell : goal.invariant-loop-cell
invariant-loop-cell l =
    l.text.items ≡ l.fn.text.items ++ flat_map (filled_line l.line) (take l.cell-index l.cells)
