use Rattle.std.proofs.Common.{◌≡◌, ◌-◌, filter, Some}
use Rattle.std.specs.List.{find}
use Rattle.container_store.specs.Changes.{is_uncompleted}
use Rattle.container_store.specs.Lookups.{uncompleted_of, is_later}
use Rattle.container_store.proofs.store.Store.uncompleted_of.Given as goal

abbrev pub invariant-loop-container : goal.invariant-loop-container
invariant-loop-container l =
    uncompleted_of l.job l.self.containers
    ≡ find (λ c. is_uncompleted c.state) (filter (is_later (Some l.job) l.after) l.self.containers)

abbrev pub decreases-loop-container : goal.decreases-loop-container
decreases-loop-container l = 4294967296 - l.after
