use Rattle.lrp_records.proofs.Public.{IsKeyOrder-place_order}
use Rattle.convergence.proofs.placing.places.Goals as goal

pub in_order-requires : goal.in_order-requires
in_order-requires c = IsKeyOrder-place_order
