use Rattle.cell_rep.proofs.Chains.{Performs-one}
use Rattle.cell_rep.proofs.rep.CellRep.once.Goals as goal

pub returns-clause-performs : goal.returns-clause-performs
returns-clause-performs g c =
    Performs-one _ _ _ _ _ c.args.todo.now c.args.self.now c.make-end.new.self _ _ c.make-end.result c.answer_to.result
    c.make-end.ensures.made c.make-end.ensures.later c.make-end.ensures.cause c.answer_to.ensures
