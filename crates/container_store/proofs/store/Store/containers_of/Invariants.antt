use Rattle.std.proofs.Common.{◌≡◌, ◌-◌, ◌++◌, filter, Some}
use Rattle.container_store.specs.Lookups.{those_of, is_later}
use Rattle.container_store.proofs.store.Store.containers_of.Given as goal

abbrev pub invariant-loop-container : goal.invariant-loop-container
invariant-loop-container l =
    those_of (Some l.job) l.self.containers
    ≡ l.list.items ++ filter (is_later (Some l.job) l.after) l.self.containers

abbrev pub decreases-loop-container : goal.decreases-loop-container
decreases-loop-container l = 4294967296 - l.after
