use Rattle.std.proofs.Common.{◌≡◌, ℕ, ◌++◌, map}
use Rattle.std.specs.List.{range_with_len}
use Rattle.lrp_records.specs.declared.presence.Presence.TheVariants.{Ordinary}
use Rattle.convergence.proofs.placing.add_instances.Given as goal

abbrev pub invariant-loop-index : goal.invariant-loop-index
invariant-loop-index l = l.all.items ≡ l.fn.all.items ++ map
    (λ (i : ℕ). (record { process = l.desired.process; index = i }, Ordinary)) (range_with_len 0 l.index)
