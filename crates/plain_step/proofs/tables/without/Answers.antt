use Rattle.std.proofs.Common.{true, false, not, ap, ◌∙◌, sym}
use Rattle.std.specs.Ordering.{is_eq}
use Rattle.plain_step.proofs.Scans.{without_row-one_more, tied_not}
use Rattle.plain_step.proofs.tables.without.Goals as goal
use Rattle.plain_step.proofs.tables.without.Goals.{then-is_ne+in_ok-push, else-is_ne}

pub loop-row-preserved : goal.loop-row-preserved
loop-row-preserved g c =
    let more = without_row-one_more g.X.Key.Ord.cmp g.X.Rowed.key c.args.key.now c.args.rows.now c.loop-row.left
    c.loop-row.row-index c.row-item.result in
    let tied = tied_not c.cmp.result c.is_ne.result c.is_ne.ensures in
    let compared = c.cmp.ensures ∙ ap (g.X.Key.Ord.cmp c.args.key.now) c.key.ensures in
    elim c.if-is_ne.branch [
      | then-is_ne+in_ok-push w ↦
          w.left-is ∙ w.in_ok-push.ensures.ok
          ∙ more false c.loop-row-test.true c.row-item.is c.loop-row.invariant
          (ap is_eq (sym compared) ∙ tied ∙ ap not w.if-is_ne.true)
      | else-is_ne w ↦
          w.left-is ∙ more true c.loop-row-test.true c.row-item.is c.loop-row.invariant
          (ap is_eq (sym compared) ∙ tied ∙ ap not w.if-is_ne.false)
    ]
