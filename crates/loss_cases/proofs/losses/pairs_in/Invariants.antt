use Rattle.std.proofs.Common.{◌≡◌, ◌++◌, drop}
use Rattle.loss_cases.specs.Cases.{pairs_in}
use Rattle.loss_cases.proofs.losses.pairs_in.Given as goal

abbrev pub invariant-loop-at : goal.invariant-loop-at
invariant-loop-at l = l.losses.items ++ pairs_in (drop l.at l.cells) ≡ pairs_in l.cells
