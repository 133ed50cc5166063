use Rattle.std.proofs.Common.{◌+◌, arith}
use Rattle.scenario_player.proofs.DoubtCounts.{few_taken, one_counted}
use Rattle.scenario_player.proofs.counting.doubts_in.Goals as goal

pub overflow_add-doubts : goal.overflow_add-doubts
overflow_add-doubts c =
    let few = few_taken c.args.items.now (c.loop-item.item-index + 1) in
    let more = one_counted c.args.items.now c.loop-item.item-index c.item-item.result c.loop-item-test.true
    c.item-item.is
    c.loop-item.doubts c.doubts_of-doubts.result c.loop-item.invariant c.doubts_of-doubts.ensures in
    omega (arith, few, more, c.requires)

pub loop-item-preserved : goal.loop-item-preserved
loop-item-preserved c =
    one_counted c.args.items.now c.loop-item.item-index c.item-item.result c.loop-item-test.true c.item-item.is
    c.loop-item.doubts c.doubts_of-doubts.result c.loop-item.invariant c.doubts_of-doubts.ensures
