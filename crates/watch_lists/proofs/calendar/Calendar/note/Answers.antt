-- The moment of the item is put, and the others stay.
use Rattle.std.proofs.Common.{List, sym, subst, ◌∙◌}
use Rattle.std.specs.FinMap.{nat_cmp-IsAntisymmetric}
use Rattle.std.specs.List.{Contains}
use Rattle.std.specs.Ordering.{nat_cmp}
use Rattle.std.proofs.lemmas.Cmp.{nat_cmp_total}
use Rattle.row_tables.specs.Table.{IsKeyOrder}
use Rattle.watch_lists.proofs.Moments.{noted_or_was, put_keeps, put_there}
use Rattle.watch_lists.proofs.calendar.Calendar.note.Goals as goal

pub invariant_of-self : goal.invariant_of-self
invariant_of-self g c m s there =
    let order : IsKeyOrder nat_cmp = record { total = nat_cmp_total; exact = nat_cmp-IsAntisymmetric } in
    subst (λ (ks : List _). Contains ks m) (sym c.put.ensures.keys)
    (noted_or_was c.args.moment m _ _ (sym (c.enter.ensures.items m s) ∙ there)
    (λ one. subst (Contains _) one (put_there nat_cmp order c.args.moment c.self.inside.moments.keys))
    (λ was. put_keeps nat_cmp order c.args.moment m c.self.inside.moments.keys (c.self.invariant m s was)))
