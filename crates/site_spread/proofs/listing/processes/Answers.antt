use Rattle.std.proofs.Common.{ℕ, List, map, ap, ◌∙◌}
use Rattle.diego_names.specs.Order.{name_order}
use Rattle.diego_names.proofs.Public.{IsKeyOrder-name_order}
use Rattle.what_if.specs.declared.site.Wanted.{Wanted}
use Rattle.row_tables.specs.Table.{table}
use Rattle.what_if.proofs.Rows.{rows-of_table}
use Rattle.site_spread.proofs.listing.processes.Goals as goal

pub table_of-requires : goal.table_of-requires
table_of-requires c = IsKeyOrder-name_order.exact

pub returns : goal.returns
returns c =
    c.in_ok-made.ensures
    ∙ ap (λ (rs : List (List ℕ × Wanted)). map (λ (p : List ℕ × Wanted). p.1)
    (table name_order (λ (p : List ℕ × Wanted). p.0) rs))
    (c.deref.ensures.value ∙ c.in_ok-rows.ensures ∙ ap (map (λ (x : Wanted). (x.key.process, x))) c.items.ensures)
    ∙ rows-of_table name_order (λ (x : Wanted). x.key.process) c.args.site.now.wanted
