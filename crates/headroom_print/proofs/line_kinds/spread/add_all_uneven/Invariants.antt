use Rattle.std.proofs.Common.{◌≡◌, ◌++◌, take}
use Rattle.std.specs.List.{flat_map}
use Rattle.headroom_print.specs.SpreadLines.{uneven_line}
use Rattle.headroom_print.proofs.line_kinds.spread.add_all_uneven.Given as goal

abbrev pub invariant-loop-process : goal.invariant-loop-process
invariant-loop-process l =
    l.text.items ≡ l.fn.text.items ++ flat_map (uneven_line l.line) (take l.process-index l.processes)
