-- One moment more each time.
use Rattle.std.proofs.Common.{ℕ, ◌+◌, List, inl, inr, sym, subst, take}
use Rattle.std.specs.List.{Contains}
use Rattle.work_causes.specs.contracts.cause.CausePartialEq.TheImpl.{eq-value}
use Rattle.watch_lists.specs.Watched.{IsDue, IsUnder, ends_in}
use Rattle.watch_lists.proofs.Finding.{finds_both, finds_less, take_whole, taken_more}
use Rattle.watch_lists.proofs.watched.Watched.pick_moments.Goals as goal

pub loop-moment-preserved : goal.loop-moment-preserved
loop-moment-preserved g c =
    finds_both (IsDue g.K.PartialEq.eq g.V.Timed.causes (ends_in c.args.leases.now) c.args.now c.args.self.now.entries)
    _ _ (λ k. (m : ℕ) × Contains (take (c.loop-moment.moment-index + 1) c.args.moments.now) m
    × IsUnder eq-value.it g.K.PartialEq.eq c.args.self.now.watch.keys c.args.calendar.now.items m k) _ _ _
    c.loop-moment.invariant c.in_ok-pick_moment.ensures.found
    (λ k asked. elim (taken_more c.args.moments.now c.loop-moment.moment-index asked.0 c.loop-moment-test.true asked.1) [
      | (inl before) ↦ inl (asked.0, before, asked.2)
      | (inr here) ↦ inr (subst (λ m. IsUnder eq-value.it g.K.PartialEq.eq c.args.self.now.watch.keys
          c.args.calendar.now.items m k) (sym here) asked.2)
    ])

pub returns-clause-found : goal.returns-clause-found
returns-clause-found g c =
    finds_less (IsDue g.K.PartialEq.eq g.V.Timed.causes (ends_in c.args.leases.now) c.args.now c.args.self.now.entries)
    _ (λ k. (m : ℕ) × Contains c.args.moments.now m
    × IsUnder eq-value.it g.K.PartialEq.eq c.args.self.now.watch.keys c.args.calendar.now.items m k) _ _
    c.loop-moment.invariant
    (λ k asked. (
      asked.0,
      subst (λ (ms : List _). Contains ms asked.0)
          (sym (take_whole c.args.moments.now c.loop-moment.moment-index c.loop-moment-test.false)) asked.1,
      asked.2,
    ))
