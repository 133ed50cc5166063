use Rattle.std.proofs.Common.{List, map, ap, ◌∙◌}
use Rattle.diego_names.specs.Key.{key_order}
use Rattle.diego_names.specs.declared.key.Key.{Key}
use Rattle.diego_names.proofs.Public.{IsKeyOrder-key_order}
use Rattle.row_tables.specs.Table.{table}
use Rattle.what_if.specs.declared.site.Wanted.{Wanted}
use Rattle.what_if.proofs.Rows.{rows-of_table}
use Rattle.what_if.proofs.wanting.by_key.Goals as goal

pub table_of-requires : goal.table_of-requires
table_of-requires c = IsKeyOrder-key_order.exact

pub returns : goal.returns
returns c =
    c.in_ok-made.ensures
    ∙ ap (λ (rs : List (Key × Wanted)). map (λ (p : Key × Wanted). p.1)
    (table key_order (λ (p : Key × Wanted). p.0) rs)) (c.deref.ensures.value ∙ c.in_ok-rows.ensures)
    ∙ rows-of_table key_order (λ (w : Wanted). w.key) c.args.list.now
