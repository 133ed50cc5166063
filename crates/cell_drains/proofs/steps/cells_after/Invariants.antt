use Rattle.std.proofs.Common.{◌≡◌, map, take}
use Rattle.cell_drains.specs.Changes.{changed_by}
use Rattle.cell_drains.proofs.steps.cells_after.Given as goal

abbrev pub invariant-loop-answer : goal.invariant-loop-answer
invariant-loop-answer l = l.cells.items ≡ map (changed_by l.change) (take l.answer-index l.answers)
