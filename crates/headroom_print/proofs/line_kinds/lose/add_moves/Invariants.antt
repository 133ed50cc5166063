use Rattle.std.proofs.Common.{◌≡◌, ◌++◌, take}
use Rattle.std.specs.List.{flat_map}
use Rattle.headroom_print.specs.LoseLines.{move_line}
use Rattle.headroom_print.proofs.line_kinds.lose.add_moves.Given as goal

abbrev pub invariant-loop-moved : goal.invariant-loop-moved
invariant-loop-moved l =
    l.text.items ≡ l.fn.text.items ++ flat_map (move_line l.line) (take l.moved-index l.moves)
