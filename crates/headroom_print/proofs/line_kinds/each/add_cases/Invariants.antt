use Rattle.std.proofs.Common.{◌≡◌, ◌++◌, take}
use Rattle.std.specs.List.{flat_map}
use Rattle.headroom_print.specs.EachLines.{case_line}
use Rattle.headroom_print.proofs.line_kinds.each.add_cases.Given as goal

abbrev pub invariant-loop-case : goal.invariant-loop-case
invariant-loop-case l =
    l.text.items ≡ l.fn.text.items ++ flat_map (case_line l.line) (take l.case-index l.cases)
