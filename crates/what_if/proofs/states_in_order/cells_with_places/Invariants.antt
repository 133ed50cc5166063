use Rattle.std.proofs.Common.{◌≡◌, ◌++◌, drop}
use Rattle.what_if.specs.Marks.{placed_from}
use Rattle.what_if.proofs.states_in_order.cells_with_places.Given as goal

abbrev pub invariant-loop-at : goal.invariant-loop-at
invariant-loop-at l = l.list.items ++ placed_from l.at (drop l.at l.states) ≡ placed_from 0 l.states
