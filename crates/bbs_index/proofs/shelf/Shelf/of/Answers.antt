use Rattle.std.proofs.Common.{◌+◌, ◌<◌, length, ap, ◌∙◌, arith}
use Rattle.row_tables.specs.Table.{put_row}
use Rattle.bbs_index.proofs.Rows.{put_row-next}
use Rattle.bbs_index.proofs.shelf.Shelf.of.Goals as goal

pub loop-row-preserved : goal.loop-row-preserved
loop-row-preserved g c =
    let lt : c.loop-row.row-index < length c.args.rows.now = omega (arith, c.loop-row-test.true) in
    record {
      so_far = c.put.ensures.rows ∙ ap (put_row g.X.Key.Ord.cmp g.X.Rowed.key c.row-item.result)
          c.loop-row.invariant.so_far
          ∙ put_row-next g.X.Key.Ord.cmp g.X.Rowed.key g.met.X.Rowed.ordered c.row-item.result c.args.rows.now
          c.loop-row.row-index (c.loop-row.row-index + 1) c.requires lt (omega arith) c.row-item.is;
      room = omega (arith, c.put.ensures.spare.taken, c.loop-row.invariant.room);
    }
