use Rattle.std.proofs.Common.{◌≡◌, take, vec_len, vec_capacity}
use Rattle.bbs_index.specs.Shelf.{table_of}
use Rattle.bbs_index.proofs.sorted.fill_at.Given as goal

abbrev pub invariant-loop-number : goal.invariant-loop-number
invariant-loop-number g l = record {
  rows : l.rows.items ≡ take l.number-index (table_of g.X.Key.Ord.cmp l.map.entries);
  count : vec_len l.rows ≡ l.number-index;
  capacity : vec_capacity l.rows ≡ vec_capacity l.fn.rows;
}
