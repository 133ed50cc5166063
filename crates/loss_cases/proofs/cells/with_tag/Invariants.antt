use Rattle.std.proofs.Common.{◌≡◌, take}
use Rattle.loss_cases.specs.Cells.{with_tag}
use Rattle.loss_cases.proofs.cells.with_tag.Given as goal

abbrev pub invariant-loop-cell : goal.invariant-loop-cell
invariant-loop-cell l = l.own.items ≡ with_tag l.tag (take l.cell-index l.cells)
