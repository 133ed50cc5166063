use Rattle.std.proofs.Common.{arith}
use Rattle.pair_runs.proofs.Lists.{lists_as}
use Rattle.pair_runs.proofs.account.Account.add.Goals as goal

pub invariant_of-self : goal.invariant_of-self
invariant_of-self c =
    lists_as c.self.inside.answers.items c.add_in_room.new.items.items c.self.inside.log.items c.add_item.new.log.items
    c.self.inside.acknowledged.items c.add_place.new.acknowledged.items c.args.answered.now c.len-place.result
    (record { log_is = c.self.invariant.log_is; acknowledged_is = c.self.invariant.acknowledged_is })
    c.add_in_room.ensures c.add_item.ensures (omega (arith, c.len-place.ensures)) c.add_place.ensures
