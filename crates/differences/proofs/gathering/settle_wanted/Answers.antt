use Rattle.std.proofs.Common.{arith}
use Rattle.differences.proofs.Gathered.{goes_on_same, goes_on_then, wanted_more}
use Rattle.differences.proofs.gathering.settle_wanted.Goals as goal

pub loop-one-init : goal.loop-one-init
loop-one-init c = record {
  here = λ d inside. absurd (omega arith);
  goes_on = goes_on_same c.args.rows.now c.args.places.now.entries;
}

pub loop-one-preserved : goal.loop-one-preserved
loop-one-preserved c = record {
  here = wanted_more c.args.rows.now c.loop-one.places.entries c.settle_instances.new.places.entries
      c.args.desired.now c.loop-one.one-index c.one-item.result c.loop-one-test.true c.one-item.is
      c.loop-one.invariant.here c.in_ok-settle_instances.ensures.goes_on c.in_ok-settle_instances.ensures.here;
  goes_on = goes_on_then c.args.rows.now c.args.places.now.entries c.loop-one.places.entries
      c.settle_instances.new.places.entries c.loop-one.invariant.goes_on c.in_ok-settle_instances.ensures.goes_on;
}
