use Rattle.std.proofs.Common.{ℕ, take}
use Rattle.std.specs.List.{Contains}
use Rattle.work_causes.specs.contracts.cause.CausePartialEq.TheImpl.{eq-value}
use Rattle.watch_lists.specs.Watched.{Finds, IsDue, IsUnder, ends_in}
use Rattle.watch_lists.proofs.watched.Watched.pick_moments.Given as goal

abbrev pub invariant-loop-moment : goal.invariant-loop-moment
invariant-loop-moment g l = Finds (IsDue g.K.PartialEq.eq g.V.Timed.causes (ends_in l.leases) l.now l.self.entries)
    (λ k. (m : ℕ) × Contains (take l.moment-index l.moments) m
    × IsUnder eq-value.it g.K.PartialEq.eq l.self.watch.keys l.calendar.items m k) l.initial.found.items l.found.items
