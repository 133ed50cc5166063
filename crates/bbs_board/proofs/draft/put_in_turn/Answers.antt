use Rattle.std.proofs.Common.{◌≡◌, ◌+◌, ◌<◌, ◌++◌, ◌∷◌, [], length, take, sym, subst, arith}
use Rattle.std.specs.List.{AllByRecursion}
use Rattle.std.proofs.ByRecursion.{All-push}
use Rattle.bbs_board.proofs.Drafting.{bytes_more, take_there, StandsBehind}
use Rattle.bbs_board.proofs.draft.put_in_turn.Goals as goal
use borrow.Author.Count.{below_more}

pub loop-number-preserved : goal.loop-number-preserved
loop-number-preserved g c =
    let rows = c.args.shelf.now.numbered in
    let i = c.loop-number.number in
    let lt : i < length rows = omega (
      arith,
      c.loop-number-test.true,
      c.loop-number.invariant.ends,
      c.may_be_in_order.ensures.count,
    ) in
    let one : take (i + 1) rows ≡ take i rows ++ c.at.result.now ∷ [] =
    take_there rows i c.at.result.now lt c.at.ensures in
    record {
      within = omega (arith, c.loop-number-test.true);
      ends = c.loop-number.invariant.ends;
      bytes = bytes_more g.X.Fields.format.spelling rows c.args.out.now.items c.loop-number.out.items
          c.put_row.new.out.items i c.at.result.now c.loop-number.invariant.bytes c.put_row.ensures.bytes one;
      fits = subst (AllByRecursion g.X.Fields.format.Fits) (sym one)
          (All-push g.X.Fields.format.Fits (take i rows) c.at.result.now c.loop-number.invariant.fits
          c.put_row.ensures.fits);
      few = omega (arith, c.put_row.ensures.few, c.loop-number.invariant.few);
      kept = omega (arith, c.put_row.ensures.kept, c.loop-number.invariant.kept);
      sorted = below_more (StandsBehind g.X.Key.Ord.cmp g.X.Rowed.key rows) i c.loop-number.invariant.sorted
          (λ below x is. c.stands_behind.ensures below x c.if-not-stands_behind.false is);
    }
