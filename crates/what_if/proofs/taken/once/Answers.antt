use Rattle.std.proofs.Common.{ℕ, List, map, ap, ◌∙◌}
use Rattle.diego_names.specs.Order.{name_order}
use Rattle.diego_names.proofs.Public.{IsKeyOrder-name_order}
use Rattle.row_tables.specs.Table.{table}
use Rattle.what_if.proofs.Rows.{rows-of_table}
use Rattle.what_if.proofs.taken.once.Goals as goal

pub table_of-requires : goal.table_of-requires
table_of-requires c = IsKeyOrder-name_order.exact

pub returns : goal.returns
returns c =
    c.in_ok-list.ensures
    ∙ ap (λ (rs : List (List ℕ × List ℕ)). map (λ (p : List ℕ × List ℕ). p.1)
    (table name_order (λ (p : List ℕ × List ℕ). p.0) rs)) (c.deref.ensures.value ∙ c.in_ok-rows.ensures)
    ∙ rows-of_table name_order (λ (n : List ℕ). n) c.args.names.now
