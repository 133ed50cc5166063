use Rattle.std.proofs.Common.{◌≤◌, length, drop}
use Rattle.auctioneer.specs.Candidates.{TracksBest}
use Rattle.auctioneer.proofs.scan.scan_best.Given as goal

abbrev pub invariant-loop-left : goal.invariant-loop-left
invariant-loop-left l = record {
  within : l.left ≤ length l.stands;
  so_far : TracksBest l.stands l.job (drop l.left l.stands) l.best;
}

abbrev pub decreases-loop-left : goal.decreases-loop-left
decreases-loop-left l = l.left
