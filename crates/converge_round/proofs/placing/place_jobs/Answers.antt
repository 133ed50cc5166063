use Rattle.std.proofs.Common.{◌∙◌, subst, sym}
use Rattle.auctioneer.specs.Asked.{AreJobs}
use Rattle.converge_round.proofs.JobsApart.{jobs_differ}
use Rattle.converge_round.proofs.placing.place_jobs.Goals as goal

pub run_auction-requires-clause-jobs : goal.run_auction-requires-clause-jobs
run_auction-requires-clause-jobs c = subst AreJobs (sym (c.items.ensures ∙ c.in_ok-jobs.ensures))
    (jobs_differ c.args.rows.now c.requires.valid)
