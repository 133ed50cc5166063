use Rattle.std.proofs.Common.{◌<◌, ℕ, List, length, map, subst, sym, ap, ◌∙◌}
use Rattle.std.specs.List.{All}
use Rattle.diego_names.specs.Order.{name_order}
use Rattle.diego_names.proofs.Public.{IsKeyOrder-name_order}
use Rattle.row_tables.specs.Table.{table}
use Rattle.what_if.proofs.InOrder.{inside}
use Rattle.what_if.proofs.states_in_order.states_in_order.Goals as goal

pub table_of-requires : goal.table_of-requires
table_of-requires c = IsKeyOrder-name_order.exact

pub returns-clause-order : goal.returns-clause-order
returns-clause-order c =
    c.in_ok-places.ensures
    ∙ ap (λ (rs : List (List ℕ × ℕ)). map (λ (p : List ℕ × ℕ). p.1) (table name_order (λ (p : List ℕ × ℕ). p.0) rs))
    (c.deref.ensures.value ∙ c.in_ok-list.ensures)

pub returns-clause-inside : goal.returns-clause-inside
returns-clause-inside c =
    let states = c.args.states.now in
    subst (All (λ at. at < length states))
    (sym (c.in_ok-places.ensures
    ∙ ap (λ (rs : List (List ℕ × ℕ)). map (λ (p : List ℕ × ℕ). p.1) (table name_order (λ (p : List ℕ × ℕ). p.0) rs))
    (c.deref.ensures.value ∙ c.in_ok-list.ensures)))
    (inside states)
