-- The order of zones and cells tells places apart.
use Rattle.std.proofs.Common.{◌≡◌, refl}
use Rattle.std.specs.Cmp.{on_total, then_total}
use Rattle.std.specs.Ordering.{ordering_then}
use Rattle.std.specs.declared.cmp.Ordering.{Ordering}
use Rattle.std.specs.declared.cmp.Ordering.TheVariants.{Less, Equal, Greater}
use Rattle.row_tables.specs.Table.{IsKeyOrder}
use Rattle.diego_names.specs.Order.{name_order}
use Rattle.diego_names.proofs.Public.{IsKeyOrder-name_order}
use Rattle.loss_cases.specs.Fits.{place_order}

-- where one order and then another tie, both do
pub both_tie : (a b : Ordering) → ordering_then a b ≡ Equal → (a ≡ Equal) × (b ≡ Equal)
both_tie Less b e = absurd cc
both_tie Equal b e = (refl, e)
both_tie Greater b e = absurd cc

pub IsKeyOrder-place_order : IsKeyOrder place_order
IsKeyOrder-place_order = record {
  total = then_total (on_total (λ p. p.zone) IsKeyOrder-name_order.total)
      (on_total (λ p. p.cell) IsKeyOrder-name_order.total);
  exact = λ x y e i.
      let both = both_tie (name_order x.zone y.zone) (name_order x.cell y.cell) e in
      record {
        zone = IsKeyOrder-name_order.exact x.zone y.zone both.0 i;
        cell =
            IsKeyOrder-name_order.exact x.cell y.cell both.1 i;
      };
}
