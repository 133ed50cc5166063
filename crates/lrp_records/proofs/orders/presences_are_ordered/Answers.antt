use Rattle.lrp_records.proofs.Ties.{IsKeyOrder-presence_order}
use Rattle.lrp_records.proofs.orders.presences_are_ordered.Goals as goal

pub returns-clause-order : goal.returns-clause-order
returns-clause-order c = IsKeyOrder-presence_order
