use Rattle.std.proofs.Common.{◌≡◌, take}
use Rattle.std.specs.List.{flat_map}
use Rattle.convergence.specs.Strays.{strays_in}
use Rattle.convergence.proofs.straying.strays.Given as goal

abbrev pub invariant-loop-answer : goal.invariant-loop-answer
invariant-loop-answer l = l.all.items ≡ flat_map (strays_in l.rows) (take l.answer-index l.answers)
