use Rattle.std.proofs.Common.{◌≡◌, map, take}
use Rattle.text_table.specs.Texts.{texts_of}
use Rattle.headroom_tables.specs.TurnTables.{turn_row}
use Rattle.headroom_tables.proofs.turns.add_turns.Given as goal

abbrev pub invariant-loop-turn : goal.invariant-loop-turn
invariant-loop-turn l =
    texts_of l.rows.items ≡ map turn_row (take l.turn-index l.turns)
