use Rattle.std.proofs.Common.{◌+◌, refl, arith}
use Rattle.differences.proofs.Gathered.{goes_on_same, goes_on_then, instances_more}
use Rattle.differences.proofs.gathering.settle_instances.Goals as goal

pub loop-index-init : goal.loop-index-init
loop-index-init c = record {
  here = λ i lt. absurd (omega arith);
  goes_on = goes_on_same c.args.rows.now c.args.places.now.entries;
}

pub loop-index-preserved : goal.loop-index-preserved
loop-index-preserved c = record {
  here = instances_more c.args.rows.now c.loop-index.places.entries c.settle.new.places.entries
      c.args.desired.now.process c.loop-index.index (c.loop-index.index + 1) refl c.loop-index.invariant.here
      c.in_ok-settle.ensures.goes_on c.in_ok-settle.ensures.here;
  goes_on = goes_on_then c.args.rows.now c.args.places.now.entries c.loop-index.places.entries
      c.settle.new.places.entries c.loop-index.invariant.goes_on c.in_ok-settle.ensures.goes_on;
}
