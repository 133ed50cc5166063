use Rattle.std.proofs.Common.{◌≡◌, take}
use Rattle.std.specs.Option.{option_map}
use Rattle.indexmap.specs.IndexMap.{get}
use Rattle.row_tables.specs.Table.{find_row}
use Rattle.differences.proofs.gathering.told_of_all.Given as goal

abbrev pub invariant-loop-row : goal.invariant-loop-row
invariant-loop-row g l = (q : _) → get g.X.Key.PartialEq.eq l.map q
    ≡ option_map g.X.Told.told (find_row g.X.Key.Ord.cmp g.X.Rowed.key q (take l.row-index l.rows))
