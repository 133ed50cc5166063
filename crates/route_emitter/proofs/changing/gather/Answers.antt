use Rattle.route_emitter.proofs.Order.{IsKeyOrder-route_order}
use Rattle.route_emitter.proofs.changing.gather.Goals as goal

pub put_in_order-requires : goal.put_in_order-requires
put_in_order-requires c = IsKeyOrder-route_order
