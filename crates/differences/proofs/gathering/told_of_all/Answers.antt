use Rattle.std.proofs.Common.{◌+◌, ◌<◌, cond, length, Some, ap, ◌∙◌, arith}
use Rattle.indexmap.specs.IndexMap.{get}
use Rattle.std.specs.Map.{lookup}
use Rattle.differences.proofs.Gathered.{row_noted}
use Rattle.differences.proofs.gathering.told_of_all.Goals as goal

pub loop-row-init : goal.loop-row-init
loop-row-init g c q = ap (lookup (g.X.Key.PartialEq.eq q)) c.new-map.ensures.empty

pub loop-row-preserved : goal.loop-row-preserved
loop-row-preserved g c q =
    let lt : c.loop-row.row-index < length c.args.rows.now = omega (arith, c.loop-row-test.true) in
    row_noted g.X.Key.Ord.cmp g.X.Rowed.key g.met.X.Rowed.ordered g.met.X.Key.Ord.matches_eq g.X.Told.told
    c.row-item.result c.args.rows.now c.loop-row.row-index (c.loop-row.row-index + 1) c.requires lt
    (omega arith) c.row-item.is q _ _ (c.loop-row.invariant q)
    (c.in_ok-add.ensures.0 q ∙ (λ i. cond (g.X.Key.PartialEq.eq (c.key.ensures i) q) (Some (c.told.ensures i))
    (get g.X.Key.PartialEq.eq c.loop-row.map q)))
