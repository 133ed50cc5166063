use Rattle.std.specs.Prelude.{◌≡◌, ◌+◌}
use Rattle.round_tests.proofs.asking.steps.sum_of.Given as goal

abbrev pub invariant-loop-item : goal.invariant-loop-item
invariant-loop-item g l = l.steps ≡ l.fn.steps + l.item-index
