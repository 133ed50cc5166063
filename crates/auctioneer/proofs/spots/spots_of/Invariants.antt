use Rattle.std.proofs.Common.{take}
use Rattle.auctioneer.specs.Spots.{AreFirstSpots}
use Rattle.auctioneer.proofs.spots.spots_of.Given as goal

abbrev pub invariant-loop-cell : goal.invariant-loop-cell
invariant-loop-cell l = AreFirstSpots l.groups.items (take l.cell l.stands) l.spots.items
