use Rattle.std.proofs.Common.{◌≡◌, ◌≤◌, ℕ, List, length, drop}
use Rattle.std.specs.HashMap.{get}
use Rattle.auctioneer.specs.Stands.{same_name}
use Rattle.what_if.specs.Sites.{place_in}
use Rattle.what_if.proofs.silence.Places.of.Given as goal

abbrev pub invariant-loop-at : goal.invariant-loop-at
invariant-loop-at l = record {
  within : l.at ≤ length l.list;
  found : (cell : List ℕ) → get same_name l.places cell ≡ place_in (drop l.at l.list) cell;
}

abbrev pub decreases-loop-at : goal.decreases-loop-at
decreases-loop-at l = l.at
