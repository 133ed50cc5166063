use Rattle.std.proofs.Common.{◌≡◌, take}
use Rattle.loss_cases.specs.Cases.{alone}
use Rattle.loss_cases.proofs.losses.alone.Given as goal

abbrev pub invariant-loop-cell : goal.invariant-loop-cell
invariant-loop-cell l = l.losses.items ≡ alone (take l.cell-index l.cells)
