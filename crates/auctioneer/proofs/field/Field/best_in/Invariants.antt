use Rattle.auctioneer.proofs.Walks.{IsBestBefore}
use Rattle.auctioneer.proofs.field.Field.best_in.Given as goal

abbrev pub invariant-loop-spot : goal.invariant-loop-spot
invariant-loop-spot l = IsBestBefore l.self.stands.items l.spots.all.items l.job l.group l.spot-iterator l.best
