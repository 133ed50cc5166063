use Rattle.std.proofs.Common.{◌≡◌, take}
use Rattle.headroom_tables.specs.TurnTables.{firsts_of}
use Rattle.headroom_tables.proofs.turns.add_firsts.Given as goal

abbrev pub invariant-loop-turn : goal.invariant-loop-turn
invariant-loop-turn l =
    l.jobs.items ≡ firsts_of (take l.turn-index l.turns)
