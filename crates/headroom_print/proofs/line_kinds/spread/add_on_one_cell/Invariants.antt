use Rattle.std.proofs.Common.{◌≡◌, ◌++◌, take}
use Rattle.std.specs.List.{flat_map}
use Rattle.headroom_print.specs.SpreadLines.{one_cell_line}
use Rattle.headroom_print.proofs.line_kinds.spread.add_on_one_cell.Given as goal

abbrev pub invariant-loop-process : goal.invariant-loop-process
invariant-loop-process l =
    l.text.items ≡ l.fn.text.items ++ flat_map (one_cell_line l.line) (take l.process-index l.processes)
