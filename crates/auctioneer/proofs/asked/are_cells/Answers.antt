use Rattle.std.proofs.Common.{refl, sym, arith}
use Rattle.cell_records.specs.declared.answer.Answer.{Answer}
use Rattle.auctioneer.proofs.Apart.{apart_by_key, not_apart}
use Rattle.auctioneer.proofs.Placings.{same_from_test}
use Rattle.auctioneer.proofs.asked.are_cells.Goals as goal

pub returns : goal.returns
returns c = (
  (λ yes. record {
    few = c.if-cells-gt1000.false;
    differ = apart_by_key (λ (a : Answer). a.cell) c.args.cells.now
        (λ i j d lt below. c.loop-i.invariant.differ i j d lt (omega (arith, c.loop-i-test.false, below)));
    each = λ k d below. c.loop-i.invariant.each k d (omega (arith, c.loop-i-test.false, below));
  }),
  (λ are. refl),
)

pub returns-then-eq : goal.returns-then-eq
returns-then-eq c = (
  (λ no. absurd cc),
  (λ are. absurd (not_apart (λ (a : Answer). a.cell) c.args.cells.now c.loop-j.j c.loop-i.i c.index-cells-j.result
      c.index-cells-i-in-loop-j.result
      c.loop-j-test.true c.loop-i-test.true (same_from_test _ _ (sym c.if-eq.ensures)) are.differ)),
)
