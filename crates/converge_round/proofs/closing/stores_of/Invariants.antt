use Rattle.std.proofs.Common.{◌≡◌, [], ◌++◌, take}
use Rattle.std.specs.List.{filter_map}
use Rattle.cell_rep.specs.Reps.{answer_of}
use Rattle.converge_round.proofs.closing.stores_of.Given as goal

abbrev pub invariant-loop-rep : goal.invariant-loop-rep
invariant-loop-rep l = l.stores ≡ [] ++ filter_map answer_of (take l.rep-index l.cells)
