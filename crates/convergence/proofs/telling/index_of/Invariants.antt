use Rattle.convergence.specs.Index.{IsIndexOf}
use Rattle.convergence.proofs.telling.index_of.Given as goal

abbrev pub invariant-loop-at : goal.invariant-loop-at
invariant-loop-at l = IsIndexOf l.answers l.at l.index
