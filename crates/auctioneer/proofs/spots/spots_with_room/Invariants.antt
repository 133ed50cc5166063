use Rattle.auctioneer.proofs.Shortages.{AreKept}
use Rattle.auctioneer.proofs.spots.spots_with_room.Given as goal

abbrev pub invariant-loop-at : goal.invariant-loop-at
invariant-loop-at l = AreKept l.all.items l.kept.items l.stands l.need l.at
