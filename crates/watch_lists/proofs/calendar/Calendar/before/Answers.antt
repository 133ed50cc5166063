use Rattle.std.proofs.Common.{◌≡◌, true, List, sym, subst}
use Rattle.std.specs.List.{Contains}
use Rattle.std.specs.Prelude.{nat_eq}
use Rattle.std.specs.Ordering.{is_lt, nat_cmp}
use Rattle.watch_lists.specs.Groups.{Dated, is_in}
use Rattle.watch_lists.proofs.Moments.{in_filter, is_before}
use Rattle.watch_lists.proofs.calendar.Calendar.before.Goals as goal

pub returns : goal.returns
returns g c m s there below =
    let inside : is_in nat_eq g.S.PartialEq.eq c.self.inside.items m s ≡ true =
    subst (λ (d : Dated _). is_in nat_eq g.S.PartialEq.eq d.items m s ≡ true) (sym c.self.view_is) there in
    subst (λ (ks : List _). Contains ks m) (sym c.before-2.ensures)
    (in_filter (λ k. is_lt (nat_cmp k c.args.moment)) m c.self.inside.moments.keys (c.self.invariant m s inside)
    (is_before m c.args.moment below))
