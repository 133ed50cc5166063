use Rattle.bbs_model.specs.Valid.{IsValid}
use Rattle.differences.specs.Standing.{StandsFor}
use Rattle.difference_tests.proofs.tests.many.start_all.Given as goal

abbrev pub invariant-loop-number : goal.invariant-loop-number
invariant-loop-number l = IsValid l.index.rows × StandsFor l.differences l.index.rows
