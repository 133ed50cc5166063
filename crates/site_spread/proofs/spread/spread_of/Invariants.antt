use Rattle.std.proofs.Common.{◌≡◌, min, take}
use Rattle.std.specs.Prelude.{fold}
use Rattle.site_spread.proofs.spread.spread_of.Given as goal

abbrev pub invariant-loop-count : goal.invariant-loop-count
invariant-loop-count l = l.least ≡ fold (λ m c. min m c.instances) l.most (take l.count-index l.counts)
