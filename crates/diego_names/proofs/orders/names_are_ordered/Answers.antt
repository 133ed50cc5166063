use Rattle.diego_names.proofs.Ties.{IsKeyOrder-name_order}
use Rattle.diego_names.proofs.orders.names_are_ordered.Goals as goal

pub returns-clause-order : goal.returns-clause-order
returns-clause-order c = IsKeyOrder-name_order
