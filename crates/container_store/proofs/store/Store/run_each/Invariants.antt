use Rattle.std.proofs.Common.{◌≡◌, ◌-◌}
use Rattle.container_store.specs.Changes.{running_each}
use Rattle.container_store.proofs.Runs.{running_later}
use Rattle.container_store.proofs.store.Store.run_each.Given as goal

abbrev pub invariant-loop-container : goal.invariant-loop-container
invariant-loop-container l = running_later l.job l.after l.self ≡ running_each l.initial.self l.job

abbrev pub decreases-loop-container : goal.decreases-loop-container
decreases-loop-container l = 4294967296 - l.after
