-- Entries stand in a total order, and only equal ones tie.
use Rattle.std.proofs.Common.{◌≡◌, refl}
use Rattle.std.specs.Cmp.{nat_cmp_total, on_total, then_total}
use Rattle.std.specs.FinMap.{nat_cmp-IsAntisymmetric}
use Rattle.std.specs.Ordering.{nat_cmp, on, ordering_then, then_cmp}
use Rattle.std.specs.declared.cmp.Ordering.{Ordering}
use Rattle.std.specs.declared.cmp.Ordering.TheVariants.{Less, Equal, Greater}
use Rattle.diego_names.specs.Instance.{instance_order}
use Rattle.diego_names.specs.Order.{name_order}
use Rattle.diego_names.proofs.Public.{IsKeyOrder-name_order}
use Rattle.row_tables.specs.Table.{IsKeyOrder}
use Rattle.route_emitter.specs.Entries.{route_order}
use Rattle.route_emitter.specs.declared.entry.RouteEntry.{RouteEntry}

-- where one order and then another tie, both do
both_tie : (a b : Ordering) → ordering_then a b ≡ Equal → (a ≡ Equal) × (b ≡ Equal)
both_tie Less b e = absurd cc
both_tie Equal b e = (refl, e)
both_tie Greater b e = absurd cc

IsKeyOrder-instance_order : IsKeyOrder instance_order
IsKeyOrder-instance_order = record {
  total = then_total (on_total (λ a. a.epoch) nat_cmp_total) (on_total (λ a. a.number) nat_cmp_total);
  exact = λ x y e i.
      let ties = both_tie (nat_cmp x.epoch y.epoch) (nat_cmp x.number y.number) e in
      record {
        epoch = nat_cmp-IsAntisymmetric x.epoch y.epoch ties.0 i;
        number = nat_cmp-IsAntisymmetric x.number y.number ties.1 i;
      };
}

-- the order by the last fields alone
abbrev by_port : RouteEntry → RouteEntry → Ordering
by_port = on (λ e. e.port) nat_cmp

abbrev by_cell : RouteEntry → RouteEntry → Ordering
by_cell = then_cmp (on (λ e. e.cell) name_order) by_port

abbrev by_instance : RouteEntry → RouteEntry → Ordering
by_instance = then_cmp (on (λ e. e.instance) instance_order) by_cell

abbrev by_index : RouteEntry → RouteEntry → Ordering
by_index = then_cmp (on (λ e. e.index) nat_cmp) by_instance

abbrev by_process : RouteEntry → RouteEntry → Ordering
by_process = then_cmp (on (λ e. e.process) name_order) by_index

pub IsKeyOrder-route_order : IsKeyOrder route_order
IsKeyOrder-route_order = record {
  total =
      then_total (on_total (λ e. e.route) IsKeyOrder-name_order.total)
      (then_total (on_total (λ e. e.process) IsKeyOrder-name_order.total)
      (then_total (on_total (λ e. e.index) nat_cmp_total)
      (then_total (on_total (λ e. e.instance) IsKeyOrder-instance_order.total)
      (then_total (on_total (λ e. e.cell) IsKeyOrder-name_order.total)
      (on_total (λ e. e.port) nat_cmp_total)))));
  exact = λ x y e i.
      let a = both_tie (name_order x.route y.route) (by_process x y) e in
      let b = both_tie (name_order x.process y.process) (by_index x y) a.1 in
      let c = both_tie (nat_cmp x.index y.index) (by_instance x y) b.1 in
      let d = both_tie (instance_order x.instance y.instance) (by_cell x y) c.1 in
      let f = both_tie (name_order x.cell y.cell) (by_port x y) d.1 in
      record {
        route = IsKeyOrder-name_order.exact x.route y.route a.0 i;
        process = IsKeyOrder-name_order.exact x.process y.process b.0 i;
        index = nat_cmp-IsAntisymmetric x.index y.index c.0 i;
        instance = IsKeyOrder-instance_order.exact x.instance y.instance d.0 i;
        cell = IsKeyOrder-name_order.exact x.cell y.cell f.0 i;
        port = nat_cmp-IsAntisymmetric x.port y.port f.1 i;
      };
}
