use Rattle.std.proofs.Common.{length}
use Rattle.bbs_index.proofs.Ordering.{AreBelow-order}
use Rattle.bbs_index.proofs.order.Order.follow.Goals as goal

pub invariant_of-self : goal.invariant_of-self
invariant_of-self g c = AreBelow-order (length c.args.keys.now) c.order_numbers.new.numbers.items
    c.order_numbers.ensures.order
