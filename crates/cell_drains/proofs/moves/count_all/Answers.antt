use Rattle.std.proofs.Common.{◌+◌, ap, sym, cond, ◌∙◌, arith, take_all}
use Rattle.cell_drains.specs.Moves.{same_job, times_moved}
use Rattle.cell_drains.proofs.Times.{few_times, times_next}
use Rattle.cell_drains.proofs.moves.count_all.Goals as goal

pub count_one-requires : goal.count_one-requires
count_one-requires c =
    omega (
      arith,
      c.loop-job.invariant c.job-item.result,
      few_times c.args.jobs.now c.loop-job.job-index c.job-item.result (omega (arith, c.loop-job-test.true)),
      c.loop-job-test.true,
    )

pub loop-job-preserved : goal.loop-job-preserved
loop-job-preserved c = λ other.
    c.in_ok-count_one.ensures other
    ∙ ap (λ n. n + cond (same_job c.job-item.result other) 1 0) (c.loop-job.invariant other)
    ∙ sym (times_next c.args.jobs.now c.loop-job.job-index c.job-item.result c.loop-job-test.true c.job-item.is other)

pub returns : goal.returns
returns c = λ job.
    c.loop-job.invariant job
    ∙ ap (λ jobs. times_moved jobs job) (take_all c.loop-job.job-index c.args.jobs.now c.loop-job-test.false)
