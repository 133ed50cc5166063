use Rattle.std.proofs.Common.{◌≡◌, true, not, List, sym, subst}
use Rattle.std.specs.List.{Contains}
use Rattle.std.specs.Prelude.{nat_eq}
use Rattle.std.specs.Ordering.{is_lt, nat_cmp}
use Rattle.watch_lists.specs.Groups.{Dated, is_in}
use Rattle.watch_lists.proofs.Moments.{in_filter, is_since}
use Rattle.watch_lists.proofs.calendar.Calendar.since.Goals as goal

pub returns : goal.returns
returns g c m s there since =
    let inside : is_in nat_eq g.S.PartialEq.eq c.self.inside.items m s ≡ true =
    subst (λ (d : Dated _). is_in nat_eq g.S.PartialEq.eq d.items m s ≡ true) (sym c.self.view_is) there in
    subst (λ (ks : List _). Contains ks m) (sym c.since.ensures)
    (in_filter (λ k. not (is_lt (nat_cmp k c.args.moment))) m c.self.inside.moments.keys (c.self.invariant m s inside)
    (is_since m c.args.moment since))
