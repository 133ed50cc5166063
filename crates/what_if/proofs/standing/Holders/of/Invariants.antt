use Rattle.std.proofs.Common.{◌≡◌, ◌≤◌, length, drop}
use Rattle.std.specs.HashMap.{get}
use Rattle.diego_names.specs.declared.key.Key.{Key}
use Rattle.what_if.specs.Stays.{holder_in, same_key}
use Rattle.what_if.proofs.standing.Holders.of.Given as goal

abbrev pub invariant-loop-at : goal.invariant-loop-at
invariant-loop-at l = record {
  within : l.at ≤ length l.stays;
  found : (key : Key) → get same_key l.cells key ≡ holder_in (drop l.at l.stays) key;
}

abbrev pub decreases-loop-at : goal.decreases-loop-at
decreases-loop-at l = l.at
