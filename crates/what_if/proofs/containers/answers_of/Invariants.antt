use Rattle.std.proofs.Common.{◌≡◌, map, take}
use Rattle.what_if.specs.Sites.{answer_of}
use Rattle.what_if.proofs.containers.answers_of.Given as goal

abbrev pub invariant-loop-state : goal.invariant-loop-state
invariant-loop-state l = l.cells.items ≡ map answer_of (take l.state-index l.states)
