use Rattle.std.proofs.Common.{◌≡◌, drop}
use Rattle.loss_cases.specs.Cells.{cell_of_name}
use Rattle.loss_cases.proofs.cells.cell_of_name.Given as goal

abbrev pub invariant-loop-cell : goal.invariant-loop-cell
invariant-loop-cell l = cell_of_name (drop l.cell-index l.cells) l.name ≡ cell_of_name l.fn.cells l.fn.name
