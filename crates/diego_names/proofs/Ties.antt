-- The laws of the orders.
use Rattle.std.proofs.Common.{◌≡◌, refl}
use Rattle.std.specs.Cmp.{nat_cmp_total, on_total, then_total}
use Rattle.std.specs.Cmp.Lexicographic.{nat_list_cmp_total}
use Rattle.std.specs.FinMap.{nat_cmp-IsAntisymmetric, slice_cmp-IsAntisymmetric}
use Rattle.std.specs.Ordering.{nat_cmp, ordering_then}
use Rattle.std.specs.declared.cmp.Ordering.{Ordering}
use Rattle.std.specs.declared.cmp.Ordering.TheVariants.{Less, Equal, Greater}
use Rattle.row_tables.specs.Table.{IsKeyOrder}
use Rattle.diego_names.specs.Order.{name_order}
use Rattle.diego_names.specs.Key.{key_order}
use Rattle.diego_names.specs.Instance.{instance_order}

-- where one order and then another tie, both do
both_tie : (a b : Ordering) → ordering_then a b ≡ Equal → (a ≡ Equal) × (b ≡ Equal)
both_tie Less b e = absurd cc
both_tie Equal b e = (refl, e)
both_tie Greater b e = absurd cc

pub IsKeyOrder-name_order : IsKeyOrder name_order
IsKeyOrder-name_order = record { total = nat_list_cmp_total; exact = slice_cmp-IsAntisymmetric nat_cmp-IsAntisymmetric }

pub IsKeyOrder-key_order : IsKeyOrder key_order
IsKeyOrder-key_order = record {
  total = then_total (on_total (λ k. k.process) nat_list_cmp_total) (on_total (λ k. k.index) nat_cmp_total);
  exact = λ x y e i.
      let ties = both_tie (name_order x.process y.process) (nat_cmp x.index y.index) e in
      record {
        process = IsKeyOrder-name_order.exact x.process y.process ties.0 i;
        index = nat_cmp-IsAntisymmetric x.index y.index ties.1 i;
      };
}

pub IsKeyOrder-instance_order : IsKeyOrder instance_order
IsKeyOrder-instance_order = record {
  total = then_total (on_total (λ a. a.epoch) nat_cmp_total) (on_total (λ a. a.number) nat_cmp_total);
  exact = λ x y e i.
      let ties = both_tie (nat_cmp x.epoch y.epoch) (nat_cmp x.number y.number) e in
      record {
        epoch = nat_cmp-IsAntisymmetric x.epoch y.epoch ties.0 i;
        number = nat_cmp-IsAntisymmetric x.number y.number ties.1 i;
      };
}
