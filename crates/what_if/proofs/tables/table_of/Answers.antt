use Rattle.std.proofs.Common.{map, ap, ◌∙◌}
use Rattle.what_if.proofs.tables.table_of.Goals as goal

pub returns : goal.returns
returns g c = c.in_ok-list.ensures ∙ ap (map (λ p. p.1)) c.in_ok-made.ensures
