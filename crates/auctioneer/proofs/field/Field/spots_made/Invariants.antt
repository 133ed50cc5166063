use Rattle.std.proofs.Common.{◌≡◌, ℕ, ◌<◌, ◌≤◌, length, get_or}
use Rattle.auctioneer.specs.Spots.{IsSpotOf}
use Rattle.auctioneer.specs.declared.spots.Spot.{Spot}
use Rattle.auctioneer.proofs.field.Field.spots_made.Given as goal

abbrev pub invariant-loop-at : goal.invariant-loop-at
invariant-loop-at l =
    (length l.all.items ≡ l.at) × (l.at ≤ length l.self.stands.items)
    × ((k : ℕ) (p : Spot) → k < l.at → IsSpotOf l.job l.self.groups.items l.self.stands.items k
    (get_or l.all.items k p))
