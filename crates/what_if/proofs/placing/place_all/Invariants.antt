use Rattle.std.proofs.Common.{◌≡◌, ◌≤◌, ◌^◌, ◌++◌, length, drop}
use Rattle.auctioneer.specs.Auction.{auction_from}
use Rattle.what_if.specs.Holders.{unplaced_by}
use Rattle.what_if.specs.Plans.{jobs_left, left_over, stands_from}
use Rattle.what_if.proofs.placing.place_all.Given as goal

abbrev pub invariant-loop-job : goal.invariant-loop-job
invariant-loop-job l = record {
  placements : l.outcome.placements ++ auction_from l.auction (drop l.job-index l.setting.jobs.now)
      ≡ auction_from l.fn.auction l.setting.jobs.now;
  left : l.outcome.left ++ jobs_left l.auction (drop l.job-index l.setting.jobs.now)
      ≡ jobs_left l.fn.auction l.setting.jobs.now;
  without_room : l.outcome.without_room ++ left_over (unplaced_by l.setting.holders.now l.setting.before.now
      l.setting.jobs.now) l.auction (drop l.job-index l.setting.jobs.now)
      ≡ left_over (unplaced_by l.setting.holders.now l.setting.before.now l.setting.jobs.now) l.fn.auction
      l.setting.jobs.now;
  stands : stands_from l.auction (drop l.job-index l.setting.jobs.now) ≡ stands_from l.fn.auction l.setting.jobs.now;
  few : length l.auction ≤ 2 ^ 32;
}
