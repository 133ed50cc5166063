-- Strays stand in an order that tells them apart.
use Rattle.std.proofs.Common.{◌≡◌, ℕ, Bool, true, false, ◌&&◌, List, nat_eq, refl, ◌∙◌}
use Rattle.std.specs.Cmp.{nat_cmp_total, on_total, then_total, both_tied, unsigned_ties}
use Rattle.std.specs.Cmp.Lexicographic.{pointwise, lists_ties}
use Rattle.std.specs.FinMap.{nat_cmp-IsAntisymmetric}
use Rattle.std.specs.Ordering.{nat_cmp, eq_by_cmp, ordering_then}
use Rattle.std.specs.declared.cmp.Ordering.{Ordering}
use Rattle.std.specs.declared.cmp.Ordering.TheVariants.{Less, Equal, Greater}
use Rattle.diego_names.proofs.Public.{IsKeyOrder-name_order}
use Rattle.diego_names.specs.Order.{name_order}
use Rattle.diego_names.specs.declared.instance.Instance.{Instance}
use Rattle.row_tables.specs.Table.{IsKeyOrder}
use Rattle.convergence.specs.Strays.{stray_order}

both_tie : (a b : Ordering) → ordering_then a b ≡ Equal → (a ≡ Equal) × (b ≡ Equal)
both_tie Less b e = absurd cc
both_tie Equal b e = (refl, e)
both_tie Greater b e = absurd cc

pub IsKeyOrder-stray_order : IsKeyOrder stray_order
IsKeyOrder-stray_order = record {
  total = then_total (then_total (on_total (λ s. s.0) IsKeyOrder-name_order.total)
      (on_total (λ s. s.1.number) nat_cmp_total))
      (on_total (λ s. s.1.epoch) nat_cmp_total);
  exact = λ x y e i.
      let last = both_tie (ordering_then (name_order x.0 y.0) (nat_cmp x.1.number y.1.number))
      (nat_cmp x.1.epoch y.1.epoch) e in
      let first = both_tie (name_order x.0 y.0) (nat_cmp x.1.number y.1.number) last.0 in (
        IsKeyOrder-name_order.exact x.0 y.0 first.0 i,
        record {
          epoch = nat_cmp-IsAntisymmetric x.1.epoch y.1.epoch last.1 i;
          number = nat_cmp-IsAntisymmetric x.1.number y.1.number first.1 i;
        },
      );
}

regrouped : (a b c : Bool) → (a && (b && c)) ≡ ((a && c) && b)
regrouped true true true = refl
regrouped true true false = refl
regrouped true false true = refl
regrouped true false false = refl
regrouped false b c = refl

-- strays that test alike tie
pub strays_tie : (x y : List ℕ × Instance) → (pointwise nat_eq x.0 y.0 &&
    (nat_eq x.1.epoch y.1.epoch && nat_eq x.1.number y.1.number)) ≡ eq_by_cmp stray_order x y
strays_tie x y =
    regrouped (pointwise nat_eq x.0 y.0) (nat_eq x.1.epoch y.1.epoch) (nat_eq x.1.number y.1.number)
    ∙ both_tied (pointwise nat_eq x.0 y.0 && nat_eq x.1.number y.1.number) (nat_eq x.1.epoch y.1.epoch)
    (ordering_then (name_order x.0 y.0) (nat_cmp x.1.number y.1.number)) (nat_cmp x.1.epoch y.1.epoch)
    (both_tied (pointwise nat_eq x.0 y.0) (nat_eq x.1.number y.1.number) (name_order x.0 y.0)
    (nat_cmp x.1.number y.1.number)
    (lists_ties nat_cmp unsigned_ties x.0 y.0) (unsigned_ties x.1.number y.1.number))
    (unsigned_ties x.1.epoch y.1.epoch)
