-- The pass stays a pass of its pair.
use Rattle.bbs_shared.specs.Passes.{IsSame}
use Rattle.standby_tests.proofs.sharing.call_own.Given as goal

abbrev pub invariant-loop-index : goal.invariant-loop-index
invariant-loop-index g l = IsSame l.initial.pass l.pass
