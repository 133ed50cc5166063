use Rattle.diego_names.proofs.Ties.{IsKeyOrder-instance_order}
use Rattle.diego_names.proofs.orders.instances_are_ordered.Goals as goal

pub returns-clause-order : goal.returns-clause-order
returns-clause-order c = IsKeyOrder-instance_order
