use Rattle.std.proofs.Common.{◌∙◌, ap, length, subst, sym, ◌≤◌}
use Rattle.std.specs.Ordering.{is_le}
use Rattle.std.specs.Option.{unwrap_or}
use Rattle.plain_step.proofs.Scans.{unwrap_or-position, position_or_len-within}
use Rattle.plain_step.proofs.tables.rows_below.Goals as goal

pub returns : goal.returns
returns g c =
    let first = unwrap_or-position (λ x. is_le (g.X.Key.Ord.cmp c.args.key.now (g.X.Rowed.key x))) c.args.rows.now in
    let place = c.unwrap_or.ensures ∙ ap (λ o. unwrap_or o (length c.args.rows.now)) c.first_from.ensures ∙ first in
    record {
      place = place;
      within = subst (λ n. n ≤ length c.args.rows.now) (sym place)
          (position_or_len-within (λ x. is_le (g.X.Key.Ord.cmp c.args.key.now (g.X.Rowed.key x))) c.args.rows.now);
    }
