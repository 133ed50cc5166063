use Rattle.std.proofs.Common.{sym, ap, [], Option}
use Rattle.std.specs.Option.{option_to_list}
use Rattle.cell_rep.specs.declared.todo.Todo.{Todo}
use Rattle.cell_rep.proofs.Chains.{Performs-none, Performs-same}
use Rattle.cell_rep.proofs.rep.CellRep.perform_for.Goals as goal

pub returns-in-None-clause-performs : goal.returns-in-None-clause-performs
returns-in-None-clause-performs g c =
    Performs-same _ _ [] _ _ _ (sym (ap (λ (o : Option Todo). option_to_list o) c.in-None.ensures))
    (Performs-none _ _ _)
