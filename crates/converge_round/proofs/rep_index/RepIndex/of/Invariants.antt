use Rattle.std.proofs.Common.{ℕ, List, take}
use Rattle.std.specs.BTreeMap.{get}
use Rattle.diego_names.specs.Order.{name_order}
use Rattle.converge_round.specs.Reps.{names_of, IsPlaceOf}
use Rattle.converge_round.proofs.rep_index.RepIndex.of.Given as goal

abbrev pub invariant-loop-at : goal.invariant-loop-at
invariant-loop-at l = (cell : List ℕ) → IsPlaceOf (take l.at (names_of l.reps)) cell (get name_order l.places cell)
