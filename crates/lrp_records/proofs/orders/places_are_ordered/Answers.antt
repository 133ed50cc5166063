use Rattle.lrp_records.proofs.Ties.{IsKeyOrder-place_order}
use Rattle.lrp_records.proofs.orders.places_are_ordered.Goals as goal

pub returns-clause-order : goal.returns-clause-order
returns-clause-order c = IsKeyOrder-place_order
