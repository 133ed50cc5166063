use Rattle.std.proofs.Common.{◌≡◌, ◌++◌, take}
use Rattle.std.specs.List.{flat_map}
use Rattle.headroom_print.specs.UnplacedLines.{unplaced_line}
use Rattle.headroom_print.proofs.line_kinds.unplaced.add_all_unplaced.Given as goal

abbrev pub invariant-loop-unplaced : goal.invariant-loop-unplaced
invariant-loop-unplaced l =
    l.text.items ≡ l.fn.text.items ++ flat_map (unplaced_line l.line) (take l.unplaced-index l.jobs)
