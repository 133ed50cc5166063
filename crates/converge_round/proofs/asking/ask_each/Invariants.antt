use Rattle.std.proofs.Common.{take, []}
use Rattle.converge_round.specs.Askings.{AsksOne, questions}
use Rattle.converge_round.specs.Each.{Each}
use Rattle.converge_round.specs.Sendings.{wire_at}
use Rattle.converge_round.proofs.asking.ask_each.Given as goal

abbrev pub invariant-loop-row : goal.invariant-loop-row
invariant-loop-row g l = Each (AsksOne l.cells) (take l.row-index l.present)
    (questions (wire_at (g.W.Wire.ends l.initial.wire) (g.W.Wire.losses l.initial.wire)) [])
    (questions (wire_at (g.W.Wire.ends l.wire) (g.W.Wire.losses l.wire)) l.got)
