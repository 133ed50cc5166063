use Rattle.std.proofs.Common.{List, map, filter, ap, ◌∙◌}
use Rattle.std.specs.Prelude.{nat_lt}
use Rattle.forecast_records.specs.declared.fits.Filled.{Filled}
use Rattle.row_tables.specs.Table.{table}
use Rattle.what_if.proofs.Rows.{rows-of_table}
use Rattle.loss_cases.specs.Fits.{each_filled, place_of, place_order}
use Rattle.loss_cases.specs.declared.fillings.Place.{Place}
use Rattle.loss_cases.proofs.PlaceOrders.{IsKeyOrder-place_order}
use Rattle.loss_cases.proofs.fillings.filled_cells.Goals as goal

pub table_of-requires : goal.table_of-requires
table_of-requires c = IsKeyOrder-place_order.exact

pub returns : goal.returns
returns c =
    let taking : List Filled → List Filled = filter (λ f. nat_lt 0 f.instances) in
    c.in_ok-filled.ensures
    ∙ ap (λ (rs : List (Place × Filled)). map (λ (p : Place × Filled). p.1)
    (table place_order (λ (p : Place × Filled). p.0) rs))
    (c.deref-2.ensures.value ∙ c.in_ok-some.ensures ∙ ap (λ (fs : List Filled). map (λ f. (place_of f, f)) (taking fs))
    (c.deref.ensures.value ∙ c.in_ok-each.ensures))
    ∙ rows-of_table place_order place_of (taking (each_filled c.args.before.now c.args.after.now))
