use Rattle.std.proofs.Common.{◌≢◌, ℕ, ◌<◌, get_or}
use Rattle.cell_records.specs.declared.answer.Answer.{Answer}
use Rattle.auctioneer.specs.Asked.{IsSoundAnswer}
use Rattle.auctioneer.proofs.asked.are_cells.Given as goal

abbrev pub invariant-loop-i : goal.invariant-loop-i
invariant-loop-i l = record {
  differ : (a b : ℕ) (d : Answer) → a < b → b < l.i → (get_or l.cells a d).cell ≢ (get_or l.cells b d).cell;
  each : (a : ℕ) (d : Answer) → a < l.i → IsSoundAnswer (get_or l.cells a d);
}

abbrev pub invariant-loop-j : goal.invariant-loop-j
invariant-loop-j l = (a : ℕ) (d : Answer) → a < l.j → (get_or l.cells a d).cell ≢ (get_or l.cells l.i d).cell
