use Rattle.std.proofs.Common.{map, ap, ◌∙◌}
use Rattle.row_tables.specs.Table.{table}
use Rattle.what_if.proofs.Rows.{rows-of_table}
use Rattle.site_spread.proofs.keys.keys_in_order.Goals as goal

pub returns : goal.returns
returns g c =
    let R = g.K.Ord.cmp in
    c.in_ok-made.ensures
    ∙ ap (λ rs. map (λ p. p.1) (table R (λ p. p.0) rs)) (c.deref.ensures.value ∙ c.in_ok-rows.ensures)
    ∙ rows-of_table R (λ k. k) c.args.keys.now
