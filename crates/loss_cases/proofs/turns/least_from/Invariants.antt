use Rattle.std.proofs.Common.{◌≡◌, take}
use Rattle.loss_cases.specs.Turns.{least_from}
use Rattle.loss_cases.proofs.turns.least_from.Given as goal

abbrev pub invariant-loop-turn : goal.invariant-loop-turn
invariant-loop-turn l = l.least ≡ least_from l.most (take l.turn-index l.turns)
