use Rattle.diego_names.proofs.Public.{IsKeyOrder-name_order}
use Rattle.loss_cases.proofs.losses.cell_names.Goals as goal

pub keys_in_order-requires : goal.keys_in_order-requires
keys_in_order-requires c = IsKeyOrder-name_order.exact
