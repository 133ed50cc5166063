-- Cells by tag, zone and name.
use Rattle.std.proofs.Common.{◌≡◌, Some, None, refl, ap}
use Rattle.std.specs.Cmp.{on_total, then_total}
use Rattle.std.specs.Cmp.Lexicographic.{options_total}
use Rattle.std.specs.FinMap.{IsAntisymmetric}
use Rattle.std.specs.Option.{option_cmp}
use Rattle.std.specs.Ordering.{ordering_then}
use Rattle.std.specs.declared.cmp.Ordering.{Ordering}
use Rattle.std.specs.declared.cmp.Ordering.TheVariants.{Less, Equal, Greater}
use Rattle.row_tables.specs.Table.{IsKeyOrder}
use Rattle.diego_names.specs.Order.{name_order}
use Rattle.diego_names.proofs.Public.{IsKeyOrder-name_order}
use Rattle.cell_drains.specs.Seats.{seat_order}

-- where one order and then another tie, both do
both_tie : (a b : Ordering) → ordering_then a b ≡ Equal → (a ≡ Equal) × (b ≡ Equal)
both_tie Less b e = absurd cc
both_tie Equal b e = (refl, e)
both_tie Greater b e = absurd cc

tags_exact : IsAntisymmetric (option_cmp name_order)
tags_exact None None e = refl
tags_exact None (Some b) e = absurd cc
tags_exact (Some a) None e = absurd cc
tags_exact (Some a) (Some b) e = ap Some (IsKeyOrder-name_order.exact a b e)

pub IsKeyOrder-seat_order : IsKeyOrder seat_order
IsKeyOrder-seat_order = record {
  total = then_total (on_total (λ s. s.tag) (options_total IsKeyOrder-name_order.total))
      (then_total (on_total (λ s. s.zone) IsKeyOrder-name_order.total)
      (on_total (λ s. s.cell) IsKeyOrder-name_order.total));
  exact = λ x y e i.
      let first = both_tie (option_cmp name_order x.tag y.tag)
      (ordering_then (name_order x.zone y.zone) (name_order x.cell y.cell)) e in
      let rest = both_tie (name_order x.zone y.zone) (name_order x.cell y.cell) first.1 in
      record {
        tag = tags_exact x.tag y.tag first.0 i;
        zone = IsKeyOrder-name_order.exact x.zone y.zone rest.0 i;
        cell = IsKeyOrder-name_order.exact x.cell y.cell rest.1 i;
      };
}
