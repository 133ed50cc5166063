use Rattle.std.proofs.Common.{take, []}
use Rattle.converge_round.specs.Each.{Each}
use Rattle.converge_round.specs.Places.{OpensOne}
use Rattle.converge_round.proofs.placing.open_cells.Given as goal

abbrev pub invariant-loop-answer : goal.invariant-loop-answer
invariant-loop-answer l = Each (OpensOne l.rows l.cells) (take l.answer-index l.got) [] l.roomy
