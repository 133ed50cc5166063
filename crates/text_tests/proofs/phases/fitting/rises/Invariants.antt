use Rattle.std.proofs.Common.{take}
use Rattle.text_tests.proofs.Fitting.{RisesTo}
use Rattle.text_tests.proofs.phases.fitting.rises.Given as goal

abbrev pub invariant-loop-line : goal.invariant-loop-line
invariant-loop-line l = RisesTo l.last (take l.line-index l.lines)
