-- The laws of the order of scores.
use Rattle.std.proofs.Common.{◌≡◌, ◌≢◌, not, refl, ap}
use Rattle.std.specs.Cmp.{nat_cmp_total, on_total, then_total}
use Rattle.std.specs.FinMap.{nat_cmp-IsAntisymmetric}
use Rattle.std.specs.Ordering.{nat_cmp, ordering_then, ordering_reverse, is_lt}
use Rattle.std.specs.declared.cmp.Ordering.{Ordering}
use Rattle.std.specs.declared.cmp.Ordering.TheVariants.{Less, Equal, Greater}
use Rattle.row_tables.specs.Table.{IsKeyOrder}
use Rattle.diego_names.specs.Order.{name_order}
use Rattle.diego_names.proofs.Public.{IsKeyOrder-name_order}
use Rattle.auction_scoring.specs.Order.{score_order, is_better}
use Rattle.auction_scoring.specs.declared.scores.Score.{Score}

-- where one order and then another tie, both do
both_tie : (a b : Ordering) → ordering_then a b ≡ Equal → (a ≡ Equal) × (b ≡ Equal)
both_tie Less b e = absurd cc
both_tie Equal b e = (refl, e)
both_tie Greater b e = absurd cc

pub IsKeyOrder-score_order : IsKeyOrder score_order
IsKeyOrder-score_order = record {
  total =
      then_total (on_total (λ s. s.in_zone) nat_cmp_total)
      (then_total (on_total (λ s. s.on_cell) nat_cmp_total)
      (then_total (on_total (λ s. s.load) nat_cmp_total) (on_total (λ s. s.cell) IsKeyOrder-name_order.total)));
  exact = λ x y e i.
      let zone = both_tie (nat_cmp x.in_zone y.in_zone) _ e in
      let cell = both_tie (nat_cmp x.on_cell y.on_cell) _ zone.1 in
      let load = both_tie (nat_cmp x.load y.load) (name_order x.cell y.cell) cell.1 in
      record {
        in_zone = nat_cmp-IsAntisymmetric x.in_zone y.in_zone zone.0 i;
        on_cell = nat_cmp-IsAntisymmetric x.on_cell y.on_cell cell.0 i;
        load = nat_cmp-IsAntisymmetric x.load y.load load.0 i;
        cell = IsKeyOrder-name_order.exact x.cell y.cell load.1 i;
      };
}

-- an answer that is no tie turns round
turned : (a b : Ordering) → a ≡ ordering_reverse b → (a ≡ Equal → ⊥) → is_lt a ≡ not (is_lt b)
turned a Less e apart = ap is_lt e
turned a Equal e apart = absurd (apart e)
turned a Greater e apart = ap is_lt e

pub is_better-total : (a b : Score) → a.cell ≢ b.cell → is_better a b ≡ not (is_better b a)
is_better-total a b apart =
    turned (score_order a b) (score_order b a) (IsKeyOrder-score_order.total.antisymm a b)
    (λ e. apart (ap (λ s. s.cell) (IsKeyOrder-score_order.exact a b e)))
