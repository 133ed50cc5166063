-- One key more each time, until all keys of the second are looked at.
use Rattle.std.proofs.Common.{◌≡◌, ◌+◌, ◌<◌, true, Some, refl, sym, ap, subst, arith}
use Rattle.std.specs.Prelude.{nat_eq}
use Rattle.watch_lists.specs.Endings.{Ended, HasEnded}
use Rattle.watch_lists.specs.Groups.{Grouped, is_in, item_at}
use Rattle.watch_lists.proofs.Finding.{finds_both, finds_less, number_more}
use Rattle.watch_lists.proofs.endings.Endings.pick_second.Goals as goal

pub loop-number-preserved : goal.loop-number-preserved
loop-number-preserved g c =
    finds_both (HasEnded g.K.PartialEq.eq g.V.Ending.ending c.args.now c.args.self.now.entries)
    _ _ _ _ _ _ c.loop-number.invariant c.in_ok-pick_number.ensures.found
    (λ k asked. number_more {P = λ i. item_at nat_eq c.args.self.now.ends c.args.second i ≡ Some k}
    c.loop-number.number (c.loop-number.number + 1) refl asked)

pub returns-clause-found : goal.returns-clause-found
returns-clause-found g c =
    let same = ap (λ (s : Ended _ _). s.ends) c.self.view_is in
    finds_less (HasEnded g.K.PartialEq.eq g.V.Ending.ending c.args.now c.args.self.now.entries)
    _ _ _ _ c.loop-number.invariant
    (λ k there.
    let n = c.len-number-end.ensures.listed k
    (subst (λ (w : Grouped _ _). is_in nat_eq g.K.PartialEq.eq w c.args.second k ≡ true) (sym same) there) in
    let below : n.0 < c.loop-number.number =
    omega (arith, n.1, c.len-number-end.ensures.len, c.loop-number-test.false) in
    (n.0, below, subst (λ (w : Grouped _ _). item_at nat_eq w c.args.second n.0 ≡ Some k) same n.2))
