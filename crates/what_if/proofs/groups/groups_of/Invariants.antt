use Rattle.std.proofs.Common.{◌≡◌, [], filter, map, take}
use Rattle.std.specs.HashMap.{get}
use Rattle.std.specs.Option.{unwrap_or}
use Rattle.what_if.proofs.groups.groups_of.Given as goal

abbrev pub invariant-loop-pair : goal.invariant-loop-pair
invariant-loop-pair g l =
    (key : _) → unwrap_or (get g.K.PartialEq.eq l.groups key) []
    ≡ map (λ p. p.1) (filter (λ p. g.K.PartialEq.eq p.0 key) (take l.pair-index l.pairs))
