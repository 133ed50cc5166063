use Rattle.std.proofs.Common.{ℕ, List, Option, ap, ◌∙◌}
use Rattle.row_tables.specs.Table.{table}
use Rattle.site_spread.specs.Groups.{tag_order}
use Rattle.site_spread.proofs.KeyOrders.{IsKeyOrder-tag_order}
use Rattle.site_answers.proofs.tags.tags_of.Goals as goal

pub keys_in_order-requires : goal.keys_in_order-requires
keys_in_order-requires c = IsKeyOrder-tag_order.exact

pub returns : goal.returns
returns c = c.in_ok-once.ensures ∙ ap (table tag_order (λ (t : Option (List ℕ)). t))
    (c.deref.ensures.value ∙ c.in_ok-tags.ensures)
