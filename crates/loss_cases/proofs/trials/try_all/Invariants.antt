use Rattle.std.proofs.Common.{◌≡◌, ◌≤◌, ◌^◌, ◌++◌, length, drop}
use Rattle.std.specs.Option.{option_or}
use Rattle.auctioneer.specs.Auction.{auction_from}
use Rattle.what_if.specs.Plans.{jobs_left, left_over, stands_from}
use Rattle.loss_cases.specs.Fits.{first_of, told_at}
use Rattle.loss_cases.proofs.trials.try_all.Given as goal

abbrev pub invariant-loop-job : goal.invariant-loop-job
invariant-loop-job l = record {
  placements : l.trial.placements ++ auction_from l.auction (drop l.job-index l.field.jobs.now)
      ≡ auction_from l.fn.auction l.field.jobs.now;
  left : l.trial.left ++ jobs_left l.auction (drop l.job-index l.field.jobs.now)
      ≡ jobs_left l.fn.auction l.field.jobs.now;
  first : option_or l.trial.first (first_of (left_over (told_at l.field.before.now l.field.jobs.now) l.auction
      (drop l.job-index l.field.jobs.now)))
      ≡ first_of (left_over (told_at l.field.before.now l.field.jobs.now) l.fn.auction l.field.jobs.now);
  stands : stands_from l.auction (drop l.job-index l.field.jobs.now) ≡ stands_from l.fn.auction l.field.jobs.now;
  few : length l.auction ≤ 2 ^ 32;
}
