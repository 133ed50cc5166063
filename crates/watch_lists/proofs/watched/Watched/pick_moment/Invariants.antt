use Rattle.std.proofs.Common.{◌≡◌, ℕ, ◌<◌, true, Some}
use Rattle.std.specs.Prelude.{nat_eq}
use Rattle.work_causes.specs.contracts.cause.CausePartialEq.TheImpl.{eq-value}
use Rattle.work_causes.specs.declared.cause.Cause.{Cause}
use Rattle.watch_lists.specs.Groups.{is_in, item_at}
use Rattle.watch_lists.specs.Watched.{Finds, IsDue, ends_in}
use Rattle.watch_lists.proofs.watched.Watched.pick_moment.Given as goal

abbrev pub invariant-loop-number : goal.invariant-loop-number
invariant-loop-number g l = Finds (IsDue g.K.PartialEq.eq g.V.Timed.causes (ends_in l.leases) l.now l.self.entries)
    (λ k. (i : ℕ) × (i < l.number) × ((c : Cause) × (item_at nat_eq l.calendar.items l.moment i ≡ Some c)
    × (is_in eq-value.it g.K.PartialEq.eq l.self.watch.keys c k ≡ true))) l.initial.found.items l.found.items
