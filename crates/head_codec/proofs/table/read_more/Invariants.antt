use Rattle.std.proofs.Common.{◌≡◌, ◌≤◌, ◌-◌, length}
use Rattle.head_codec.specs.Head.{may_follow, head_rows_at}
use Rattle.head_codec.specs.Seen.{IsSeen}
use Rattle.head_codec.proofs.table.read_more.Given as goal

abbrev pub invariant-loop-row : goal.invariant-loop-row
invariant-loop-row g l = record {
  same : head_rows_at (g.X.HeadRow.formats l.version).read
      (may_follow g.X.Key.Ord.cmp g.X.Rowed.key g.X.HeadRow.keeps l.next) l.count l.bytes (l.fn.table.rows, l.at)
      ≡ head_rows_at (g.X.HeadRow.formats l.version).read (may_follow g.X.Key.Ord.cmp g.X.Rowed.key g.X.HeadRow.keeps
      l.next) (l.count - l._row) l.bytes (l.table.rows, l.place);
  seen : IsSeen g.X.Key.Ord.cmp g.X.Rowed.key g.X.HeadRow.keeps l.table.rows l.table.last l.table.wanted
      l.table.stamps;
  within : l.place ≤ length l.bytes;
}
