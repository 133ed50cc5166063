use Rattle.std.proofs.Common.{◌≡◌, ℕ, ◌<◌, Some}
use Rattle.work_causes.specs.contracts.cause.CausePartialEq.TheImpl.{eq-value}
use Rattle.watch_lists.specs.Groups.{item_at}
use Rattle.watch_lists.specs.Watched.{Finds, IsDue, ends_in}
use Rattle.watch_lists.proofs.watched.Watched.pick_cause.Given as goal

abbrev pub invariant-loop-number : goal.invariant-loop-number
invariant-loop-number g l = Finds (IsDue g.K.PartialEq.eq g.V.Timed.causes (ends_in l.leases) l.now l.self.entries)
    (λ k. (i : ℕ) × (i < l.number) × (item_at eq-value.it l.self.watch.keys l.cause i ≡ Some k))
    l.initial.found.items l.found.items
