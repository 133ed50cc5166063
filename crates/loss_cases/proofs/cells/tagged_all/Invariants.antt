use Rattle.std.proofs.Common.{◌≡◌, map, take}
use Rattle.loss_cases.specs.Cells.{tagged}
use Rattle.loss_cases.proofs.cells.tagged_all.Given as goal

abbrev pub invariant-loop-answer : goal.invariant-loop-answer
invariant-loop-answer l = l.cells.items ≡ map tagged (take l.answer-index l.answers)
