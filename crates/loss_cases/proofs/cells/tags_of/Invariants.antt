use Rattle.std.proofs.Common.{◌≡◌, map, take}
use Rattle.loss_cases.proofs.cells.tags_of.Given as goal

abbrev pub invariant-loop-cell : goal.invariant-loop-cell
invariant-loop-cell l = l.tags.items ≡ map (λ c. c.tag) (take l.cell-index l.cells)
