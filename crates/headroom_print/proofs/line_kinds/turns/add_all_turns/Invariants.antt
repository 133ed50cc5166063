use Rattle.std.proofs.Common.{◌≡◌, ◌++◌, take}
use Rattle.std.specs.List.{flat_map}
use Rattle.headroom_print.specs.TurnLines.{turn_lines}
use Rattle.headroom_print.proofs.line_kinds.turns.add_all_turns.Given as goal

abbrev pub invariant-loop-turn : goal.invariant-loop-turn
invariant-loop-turn l =
    l.text.items ≡ l.fn.text.items ++ flat_map (turn_lines l.line) (take l.turn-index l.turns)
