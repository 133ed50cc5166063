use Rattle.std.proofs.Common.{◌≡◌, take}
use Rattle.std.specs.HashSet.{contains}
use Rattle.std.specs.List.{list_any}
use Rattle.what_if.proofs.key_sets.key_set.Given as goal

abbrev pub invariant-loop-key : goal.invariant-loop-key
invariant-loop-key g l = (key : _) → contains g.K.PartialEq.eq l.set key
    ≡ list_any (λ k. g.K.PartialEq.eq k key) (take l.key-index l.keys)
