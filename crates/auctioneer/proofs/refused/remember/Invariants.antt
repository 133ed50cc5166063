use Rattle.std.proofs.Common.{◌≡◌}
use Rattle.auctioneer.proofs.refused.remember.Given as goal

abbrev pub invariant-loop-at : goal.invariant-loop-at
invariant-loop-at l = l.refused.items ≡ l.fn.refused.items
