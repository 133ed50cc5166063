use Rattle.std.proofs.Common.{◌≤◌, ◌^◌, List, length, subst, sym, arith}
use Rattle.auctioneer.specs.Asked.{AreJobs}
use Rattle.cell_records.specs.declared.job.Job.{Job}
use Rattle.what_if.specs.Holders.{does_wait_by}
use Rattle.what_if.proofs.Few.{waits_few}
use Rattle.what_if.proofs.planning.waiting_of.Goals as goal

pub returns-clause-apart : goal.returns-clause-apart
returns-clause-apart c = subst AreJobs (sym c.in_ok-jobs.ensures) (c.requires.jobs (does_wait_by c.args.holders.now))

pub returns-clause-few : goal.returns-clause-few
returns-clause-few c =
    subst (λ (jobs : List Job). length jobs ≤ 2 ^ 32) (sym c.in_ok-jobs.ensures)
    (omega (arith, waits_few c.args.site.now c.args.holders.now, c.requires.few))
