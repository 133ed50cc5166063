-- A moment goes where nothing is noted under it any more.
use Rattle.std.proofs.Common.{◌≡◌, ◌≢◌, ◌<◌, true, List, sym, subst, ◌∙◌, arith}
use Rattle.std.specs.FinMap.{nat_cmp-IsAntisymmetric}
use Rattle.std.specs.List.{Contains}
use Rattle.std.specs.Prelude.{nat_eq}
use Rattle.std.specs.Ordering.{nat_cmp}
use Rattle.std.proofs.lemmas.Cmp.{nat_cmp_total}
use Rattle.row_tables.specs.Table.{IsKeyOrder}
use Rattle.watch_lists.specs.Groups.{is_in}
use Rattle.watch_lists.proofs.Moments.{was_noted, without_keeps}
use Rattle.watch_lists.proofs.calendar.Calendar.forget.Goals as goal

pub invariant_of-self : goal.invariant_of-self
invariant_of-self g c m s there =
    let order : IsKeyOrder nat_cmp = record { total = nat_cmp_total; exact = nat_cmp-IsAntisymmetric } in
    let other : c.args.moment ≢ m = λ one.
    let n = c.len.ensures.listed s (subst (λ k. is_in nat_eq g.S.PartialEq.eq c.leave.new.self k s ≡ true) (sym one) there) in
    let lt : n.0 < 0 = subst (λ k. n.0 < k) (sym c.len.ensures.len ∙ c.if-len-eq0.true) n.1 in
    absurd (omega (arith, lt)) in
    subst (λ (ks : List _). Contains ks m) (sym c.remove.ensures.keys)
    (without_keeps nat_cmp order c.args.moment m c.self.inside.moments.keys other
    (c.self.invariant m s (was_noted _ _ (sym (c.leave.ensures.items m s) ∙ there))))
