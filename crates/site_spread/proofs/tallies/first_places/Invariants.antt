use Rattle.std.proofs.Common.{◌≡◌, ◌≤◌, ℕ, List, length, drop}
use Rattle.std.specs.HashMap.{get}
use Rattle.auctioneer.specs.Stands.{same_name}
use Rattle.site_spread.specs.Together.{first_place}
use Rattle.site_spread.proofs.tallies.first_places.Given as goal

abbrev pub invariant-loop-at : goal.invariant-loop-at
invariant-loop-at l = record {
  within : l.at ≤ length l.stays;
  found : (process : List ℕ) → get same_name l.first process ≡ first_place (drop l.at l.stays) process;
}

abbrev pub decreases-loop-at : goal.decreases-loop-at
decreases-loop-at l = l.at
