use Rattle.diego_names.proofs.Ties.{IsKeyOrder-key_order}
use Rattle.diego_names.proofs.orders.keys_are_ordered.Goals as goal

pub returns-clause-order : goal.returns-clause-order
returns-clause-order c = IsKeyOrder-key_order
