use Rattle.std.proofs.Common.{◌≡◌, ◌++◌, drop}
use Rattle.auctioneer.specs.Auction.{auction, auction_from}
use Rattle.auctioneer.specs.Order.{in_order}
use Rattle.auctioneer.proofs.auction.run_auction.Given as goal

abbrev pub invariant-loop-job : goal.invariant-loop-job
invariant-loop-job l =
    l.list ++ auction_from l.auction (drop l.job-index l.job-items) ≡ auction l.fn.cells (in_order l.fn.jobs)
