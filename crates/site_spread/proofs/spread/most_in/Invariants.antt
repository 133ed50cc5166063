use Rattle.std.proofs.Common.{◌≡◌, take}
use Rattle.site_spread.specs.Spread.{most_in}
use Rattle.site_spread.proofs.spread.most_in.Given as goal

abbrev pub invariant-loop-count : goal.invariant-loop-count
invariant-loop-count l = l.most ≡ most_in (take l.count-index l.counts)
