-- One key more each time, until all keys of the cause are looked at.
use Rattle.std.proofs.Common.{◌≡◌, ◌+◌, ◌<◌, true, Some, refl, sym, ap, subst, ◌∙◌, arith}
use Rattle.work_causes.specs.contracts.cause.CausePartialEq.TheImpl.{eq-value}
use Rattle.watch_lists.specs.Groups.{Grouped, is_in, item_at}
use Rattle.watch_lists.specs.Watched.{IsDue, Watched, ends_in}
use Rattle.watch_lists.specs.declared.watched.Watched.TheInside.{Inside}
use Rattle.watch_lists.proofs.Finding.{finds_both, finds_less, number_more}
use Rattle.watch_lists.proofs.watched.Watched.pick_cause.Goals as goal

pub loop-number-preserved : goal.loop-number-preserved
loop-number-preserved g c =
    finds_both (IsDue g.K.PartialEq.eq g.V.Timed.causes (ends_in c.args.leases.now) c.args.now c.args.self.now.entries)
    _ _ _ _ _ _ c.loop-number.invariant c.in_ok-pick_number.ensures.found
    (λ k asked. number_more
    {P = λ i. item_at eq-value.it c.args.self.now.watch.keys c.args.cause.now i ≡ Some k} c.loop-number.number
    (c.loop-number.number + 1) refl asked)

pub returns-clause-found : goal.returns-clause-found
returns-clause-found g c =
    let same = ap (λ (s : Inside _ _). s.watch.keys) c.self-inside.view_is
    ∙ ap (λ (s : Watched _ _). s.watch.keys) c.self.view_is in
    finds_less (IsDue g.K.PartialEq.eq g.V.Timed.causes (ends_in c.args.leases.now) c.args.now c.args.self.now.entries)
    _ _ _ _ c.loop-number.invariant
    (λ k there.
    let n = c.len-number-end.ensures.listed k
    (subst (λ (w : Grouped _ _). is_in eq-value.it g.K.PartialEq.eq w c.args.cause.now k ≡ true) (sym same) there) in
    let below : n.0 < c.loop-number.number =
    omega (arith, n.1, c.len-number-end.ensures.len, c.loop-number-test.false) in
    (n.0, below, subst (λ (w : Grouped _ _). item_at eq-value.it w c.args.cause.now n.0 ≡ Some k) same n.2))
