use Rattle.std.proofs.Common.{[]}
use Rattle.converge_round.specs.Places.{job_on}
use Rattle.converge_round.proofs.Lists.{kept_more}
use Rattle.converge_round.proofs.cell_jobs.CellJobs.of.Goals as goal

pub loop-placement-preserved : goal.loop-placement-preserved
loop-placement-preserved c cell =
    kept_more (job_on c.args.rows.now cell) c.args.placements.now c.loop-placement.placement-index
    c.placement-item.result [] _ _ c.loop-placement-test.true c.placement-item.is (c.loop-placement.invariant cell)
    (c.in_ok-keep.ensures cell)
