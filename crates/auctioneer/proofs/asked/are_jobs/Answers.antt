use Rattle.std.proofs.Common.{rules, refl, arith}
use Rattle.cell_records.specs.declared.job.Job.{Job}
use Rattle.auctioneer.proofs.Apart.{apart_by_key, not_apart}
use Rattle.auctioneer.proofs.asked.are_jobs.Goals as goal

pub returns : goal.returns
returns c = (
  (λ yes. apart_by_key (λ (j : Job). j.job) c.args.jobs.now
      (λ i j d lt below. c.loop-i.invariant i j d lt (omega (arith, c.loop-i-test.false, below)))),
  (λ apart. refl),
)

pub returns-then-eq : goal.returns-then-eq
returns-then-eq c = (
  (λ no. absurd cc),
  (λ apart. absurd (not_apart (λ (j : Job). j.job) c.args.jobs.now c.loop-j.j c.loop-i.i c.index-jobs-j.result
      c.index-jobs-i.result
      c.loop-j-test.true c.loop-i-test.true (search rules) apart)),
)
