use Rattle.std.proofs.Common.{◌+◌, inl, inr, refl, arith}
use Rattle.differences.proofs.Touched.{outside_none, range_renewed}
use Rattle.differences.proofs.following.renew_range.Goals as goal

pub loop-index-init : goal.loop-index-init
loop-index-init g c = record {
  places = λ p. inr (refl, inl (outside_none c.args.process c.args.low p.0));
  spare = omega arith;
}

pub loop-index-preserved : goal.loop-index-preserved
loop-index-preserved g c = record {
  places = λ p. range_renewed c.args.process c.args.low c.loop-index.index (c.loop-index.index + 1) p _
      c.args.places.now.entries c.loop-index.places.entries c.renew_index.new.places.entries refl
      (c.loop-index.invariant.places p) (c.renew_index.ensures.places p);
  spare = omega (arith, c.renew_index.ensures.spare, c.loop-index.invariant.spare);
}
