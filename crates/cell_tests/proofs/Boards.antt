-- Tables without rows are those of a board.
use Rattle.std.specs.List.{IsDistinct}
use Rattle.std.proofs.Common.{ℕ, [], arith}
use Rattle.bbs_model.specs.Valid.{AreDesired, AreActual, AreTasks, AreCells, AreDomains}

pub no_desired : AreDesired []
no_desired = record { rising = tt; few = omega arith; each = tt; wanted = omega arith }

pub no_actual : (next : ℕ) → AreActual next []
no_actual next = record { rising = tt; few = omega arith; each = tt }

pub no_tasks : (next : ℕ) → AreTasks next []
unfolding IsDistinct
no_tasks next = record { rising = tt; few = omega arith; each = tt; births = tt }

pub no_cells : (next : ℕ) → AreCells next []
unfolding IsDistinct
no_cells next = record { rising = tt; few = omega arith; each = tt; epochs = tt }

pub no_domains : AreDomains []
no_domains = record { rising = tt; few = omega arith }
