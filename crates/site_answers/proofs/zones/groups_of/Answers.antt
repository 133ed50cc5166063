use Rattle.std.proofs.Common.{ap, ◌∙◌}
use Rattle.row_tables.specs.Table.{table}
use Rattle.site_spread.specs.Groups.{group_order}
use Rattle.site_spread.specs.declared.group.Group.{Group}
use Rattle.site_spread.proofs.KeyOrders.{IsKeyOrder-group_order}
use Rattle.site_answers.proofs.zones.groups_of.Goals as goal

pub keys_in_order-requires : goal.keys_in_order-requires
keys_in_order-requires c = IsKeyOrder-group_order.exact

pub returns : goal.returns
returns c = c.in_ok-once.ensures ∙ ap (table group_order (λ (g : Group). g))
    (c.deref.ensures.value ∙ c.in_ok-groups.ensures)
