use Rattle.std.proofs.Common.{subst, arith}
use Rattle.differences.specs.Gathering.{IsSettled}
use Rattle.differences.proofs.Gathered.{goes_on_same, goes_on_then, rows_more}
use Rattle.differences.proofs.gathering.settle_rows.Goals as goal

pub loop-row-init : goal.loop-row-init
loop-row-init c = record {
  here = λ a inside. absurd (omega arith);
  goes_on = goes_on_same c.args.rows.now c.args.places.now.entries;
}

pub loop-row-preserved : goal.loop-row-preserved
loop-row-preserved c = record {
  here = rows_more c.args.rows.now c.loop-row.places.entries c.settle.new.places.entries c.args.actual.now
      c.loop-row.row-index c.row-item.result c.loop-row-test.true c.row-item.is c.loop-row.invariant.here
      c.in_ok-settle.ensures.goes_on
      (subst (IsSettled c.args.rows.now c.settle.new.places.entries) c.place.ensures c.in_ok-settle.ensures.here);
  goes_on = goes_on_then c.args.rows.now c.args.places.now.entries c.loop-row.places.entries
      c.settle.new.places.entries c.loop-row.invariant.goes_on c.in_ok-settle.ensures.goes_on;
}
