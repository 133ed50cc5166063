-- One cause more each time, until all causes of the moment are looked at.
use Rattle.std.proofs.Common.{◌≡◌, ◌+◌, ◌<◌, true, Some, refl, arith}
use Rattle.std.specs.Prelude.{nat_eq}
use Rattle.work_causes.specs.contracts.cause.CausePartialEq.TheImpl.{eq-value}
use Rattle.work_causes.specs.declared.cause.Cause.{Cause}
use Rattle.watch_lists.specs.Groups.{is_in, item_at}
use Rattle.watch_lists.specs.Watched.{IsDue, ends_in}
use Rattle.watch_lists.proofs.Finding.{finds_both, finds_less, finds_none, number_more}
use Rattle.watch_lists.proofs.watched.Watched.pick_moment.Goals as goal

pub loop-number-init : goal.loop-number-init
loop-number-init g c =
    finds_none (IsDue g.K.PartialEq.eq g.V.Timed.causes (ends_in c.args.leases.now) c.args.now c.args.self.now.entries)
    _ _ (λ k asked wanted. absurd (omega (arith, asked.1)))

pub loop-number-preserved : goal.loop-number-preserved
loop-number-preserved g c =
    finds_both (IsDue g.K.PartialEq.eq g.V.Timed.causes (ends_in c.args.leases.now) c.args.now c.args.self.now.entries)
    _ _ _ _ _ _ c.loop-number.invariant c.in_ok-pick_noted.ensures.found
    (λ k asked. number_more
    {P = λ i. (d : Cause) × (item_at nat_eq c.args.calendar.now.items c.args.moment i ≡ Some d)
    × (is_in eq-value.it g.K.PartialEq.eq c.args.self.now.watch.keys d k ≡ true)} c.loop-number.number
    (c.loop-number.number + 1) refl asked)

pub returns-clause-found : goal.returns-clause-found
returns-clause-found g c =
    finds_less (IsDue g.K.PartialEq.eq g.V.Timed.causes (ends_in c.args.leases.now) c.args.now c.args.self.now.entries)
    _ _ _ _ c.loop-number.invariant
    (λ k under.
    let n = c.len-number-end.ensures.listed under.0 under.1 in
    let below : n.0 < c.loop-number.number =
    omega (arith, n.1, c.len-number-end.ensures.len, c.loop-number-test.false) in
    (n.0, below, (under.0, n.2, under.2)))
