use Rattle.std.proofs.Common.{◌≡◌, ◌++◌, take}
use Rattle.std.specs.List.{flat_map}
use Rattle.headroom_print.specs.LoseLines.{dark_line}
use Rattle.headroom_print.proofs.line_kinds.lose.add_all_dark.Given as goal

abbrev pub invariant-loop-process : goal.invariant-loop-process
invariant-loop-process l =
    l.text.items ≡ l.fn.text.items ++ flat_map (dark_line l.line) (take l.process-index l.processes)
