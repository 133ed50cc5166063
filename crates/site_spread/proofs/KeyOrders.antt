-- The orders of tags and groups are those of keys.
use Rattle.std.proofs.Common.{◌≡◌, List, map, Some, None, refl, sym, ap}
use Rattle.std.specs.Cmp.{back_total, nat_cmp_total, on_total, then_total}
use Rattle.std.specs.Cmp.Lexicographic.{options_total}
use Rattle.std.specs.FinMap.{IsAntisymmetric, nat_cmp-IsAntisymmetric}
use Rattle.std.specs.Ordering.{nat_cmp, ordering_then}
use Rattle.std.specs.declared.cmp.Ordering.{Ordering}
use Rattle.std.specs.declared.cmp.Ordering.TheVariants.{Less, Equal, Greater}
use Rattle.std.specs.List.Sorted.{IsPermutation, IsSortedByKey}
use Rattle.row_tables.specs.Table.{IsKeyOrder}
use Rattle.row_tables.proofs.Public.{table-from_sorted}
use Rattle.diego_names.specs.Order.{name_order}
use Rattle.diego_names.proofs.Public.{IsKeyOrder-name_order}
use Rattle.forecast_records.specs.declared.spread.Uneven.{Uneven}
use Rattle.site_spread.specs.Spread.{by_spread, uneven_order, unevenness}
use Rattle.site_spread.specs.Groups.{tag_order}
use Rattle.site_spread.specs.Groups.{group_order}
use Rattle.what_if.proofs.Differing.{Differ, differ-by}

-- where one order and then another tie, both do
both_tie : (a b : Ordering) → ordering_then a b ≡ Equal → (a ≡ Equal) × (b ≡ Equal)
both_tie Less b e = absurd cc
both_tie Equal b e = (refl, e)
both_tie Greater b e = absurd cc

tags_exact : IsAntisymmetric tag_order
tags_exact None None e = refl
tags_exact None (Some b) e = absurd cc
tags_exact (Some a) None e = absurd cc
tags_exact (Some a) (Some b) e = ap Some (IsKeyOrder-name_order.exact a b e)

pub IsKeyOrder-tag_order : IsKeyOrder tag_order
IsKeyOrder-tag_order = record { total = options_total IsKeyOrder-name_order.total; exact = tags_exact }

pub IsKeyOrder-group_order : IsKeyOrder group_order
IsKeyOrder-group_order = record {
  total = then_total (on_total (λ g. g.zone) IsKeyOrder-name_order.total)
      (on_total (λ g. g.tag) IsKeyOrder-tag_order.total);
  exact = λ x y e i.
      let both = both_tie (name_order x.zone y.zone) (tag_order x.tag y.tag) e in
      record { zone = IsKeyOrder-name_order.exact x.zone y.zone both.0 i; tag = tags_exact x.tag y.tag both.1 i };
}

pub IsKeyOrder-uneven_order : IsKeyOrder uneven_order
IsKeyOrder-uneven_order = record {
  total = then_total (on_total (λ u. u.spread.0) (back_total nat_cmp_total))
      (on_total (λ u. u.process) IsKeyOrder-name_order.total);
  exact = λ x y e i.
      let both = both_tie (nat_cmp y.spread.0 x.spread.0) (name_order x.process y.process) e in
      record {
        spread = record { 0 = sym (nat_cmp-IsAntisymmetric y.spread.0 x.spread.0 both.0) i };
        process = IsKeyOrder-name_order.exact x.process y.process both.1 i;
      };
}

-- processes of unlike names, the larger spread first
pub sorted_by_spread : (xs ys : List Uneven) → Differ (map (λ u. u.process) xs)
    → IsSortedByKey unevenness uneven_order ys → IsPermutation xs ys → ys ≡ by_spread xs
sorted_by_spread xs ys differ sorted moved =
    table-from_sorted uneven_order unevenness IsKeyOrder-uneven_order xs ys
    (differ-by (λ (u : Uneven). u.process) unevenness (λ x y e. ap (λ k. k.process) e) xs differ) sorted moved
