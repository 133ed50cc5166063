use Rattle.site_spread.proofs.KeyOrders.{IsKeyOrder-tag_order}
use Rattle.loss_cases.proofs.cells.tags_of.Goals as goal

pub keys_in_order-requires : goal.keys_in_order-requires
keys_in_order-requires c = IsKeyOrder-tag_order.exact
