use Rattle.std.proofs.Common.{◌≡◌, take}
use Rattle.row_tables.specs.Table.{without_row}
use Rattle.plain_step.proofs.tables.without.Given as goal

abbrev pub invariant-loop-row : goal.invariant-loop-row
invariant-loop-row g l = l.left ≡ without_row g.X.Key.Ord.cmp g.X.Rowed.key l.key (take l.row-index l.rows)
