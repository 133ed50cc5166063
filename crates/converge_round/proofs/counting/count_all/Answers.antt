use Rattle.converge_round.proofs.CountLaws.{counted_more}
use Rattle.converge_round.proofs.counting.count_all.Goals as goal

pub loop-claimed-preserved : goal.loop-claimed-preserved
loop-claimed-preserved c =
    counted_more c.args.ends.now c.loop-claimed.claimed-index c.claimed-item.result c.args.tally.now
    c.loop-claimed.tally c.count_end.new.tally c.loop-claimed-test.true c.claimed-item.is c.loop-claimed.invariant
    c.in-Ok.ensures.counts
