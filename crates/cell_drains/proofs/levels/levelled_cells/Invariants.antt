use Rattle.std.proofs.Common.{◌≡◌, map, take}
use Rattle.cell_drains.specs.Steps.{levelled_cell}
use Rattle.cell_drains.proofs.levels.levelled_cells.Given as goal

abbrev pub invariant-loop-answer : goal.invariant-loop-answer
invariant-loop-answer l = l.cells.items ≡ map levelled_cell (take l.answer-index l.answers)
