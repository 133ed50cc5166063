use Rattle.std.proofs.Common.{ℕ, List, ap, ◌∙◌}
use Rattle.diego_names.specs.Order.{name_order}
use Rattle.diego_names.proofs.Public.{IsKeyOrder-name_order}
use Rattle.row_tables.specs.Table.{table}
use Rattle.site_spread.proofs.listing.zone_names.Goals as goal

pub keys_in_order-requires : goal.keys_in_order-requires
keys_in_order-requires c = IsKeyOrder-name_order.exact

pub returns : goal.returns
returns c = c.in_ok-names.ensures ∙ ap (table name_order (λ (z : List ℕ). z))
    (c.deref.ensures.value ∙ c.in_ok-zones.ensures)
