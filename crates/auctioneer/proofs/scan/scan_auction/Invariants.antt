use Rattle.std.proofs.Common.{◌≡◌, ◌++◌, drop}
use Rattle.auctioneer.specs.Asked.{AreStands}
use Rattle.auctioneer.specs.Auction.{auction, auction_from}
use Rattle.auctioneer.specs.Order.{in_order}
use Rattle.auctioneer.proofs.scan.scan_auction.Given as goal

abbrev pub invariant-loop-job : goal.invariant-loop-job
invariant-loop-job l = record {
  sound : AreStands l.stands.items;
  so_far : l.list ++ auction_from l.stands.items (drop l.job-index l.job-items)
      ≡ auction l.fn.cells (in_order l.fn.jobs);
}
