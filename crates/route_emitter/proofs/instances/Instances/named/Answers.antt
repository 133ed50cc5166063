use Rattle.std.proofs.Common.{◌++◌, ap, ◌∙◌}
use Rattle.std.specs.List.{flat_map}
use Rattle.diego_names.specs.Key.{key_order}
use Rattle.diego_names.proofs.Public.{IsKeyOrder-key_order}
use Rattle.row_tables.specs.Table.{table}
use Rattle.route_emitter.specs.Near.{of_process}
use Rattle.route_emitter.proofs.Naming.{named-all}
use Rattle.route_emitter.proofs.instances.Instances.named.Goals as goal

pub put_in_order-requires : goal.put_in_order-requires
put_in_order-requires c = IsKeyOrder-key_order

pub returns : goal.returns
returns c =
    let listed = c.as_slice.ensures.value ∙ c.in_ok-processes.ensures in
    named-all c.args.self.now.set c.args.events.now c.put_in_order.new.items.items
    (c.put_in_order.ensures.items
    ∙ ap (table key_order (λ k. k)) (c.in_ok-list_all.ensures ∙
    (λ i. c.in_ok-named.ensures i ++ flat_map (of_process c.args.self.now.set.keys) (listed i))))
