use Rattle.std.proofs.Common.{◌≡◌, map, take}
use Rattle.loss_cases.specs.Cases.{worst}
use Rattle.loss_cases.specs.Turns.{verdict_at_least}
use Rattle.loss_cases.proofs.turns.verdict_of.Given as goal

abbrev pub invariant-loop-turn : goal.invariant-loop-turn
invariant-loop-turn l = l.verdict ≡ worst (map (verdict_at_least l.at_least) (take l.turn-index l.turns))
