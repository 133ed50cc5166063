use Rattle.std.proofs.Common.{◌≡◌, take}
use Rattle.std.specs.HashMap.{get}
use Rattle.std.specs.List.{count_by}
use Rattle.std.specs.Option.{unwrap_or}
use Rattle.site_spread.proofs.counts.counts_of.Given as goal

abbrev pub invariant-loop-key : goal.invariant-loop-key
invariant-loop-key g l =
    (key : _) → unwrap_or (get g.K.PartialEq.eq l.counts key) 0
    ≡ count_by (λ k. g.K.PartialEq.eq key k) (take l.key-index l.keys)
