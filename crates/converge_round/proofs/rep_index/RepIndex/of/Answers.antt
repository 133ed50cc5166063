use Rattle.converge_round.proofs.IndexLaws.{placed-more, names-more, names-before}
use Rattle.converge_round.proofs.rep_index.RepIndex.of.Goals as goal

pub loop-at-preserved : goal.loop-at-preserved
loop-at-preserved c cell =
    placed-more _ _ c.cell.result cell c.loop-at.at _ _
    (names-more c.args.reps.now c.loop-at.at c.index-reps-at.result c.cell.result c.loop-at-test.true c.index-reps-at.is
    c.cell.ensures)
    (names-before c.args.reps.now c.loop-at.at c.loop-at-test.true)
    (c.in_ok-insert.ensures.updates.0 cell) (c.loop-at.invariant cell)
