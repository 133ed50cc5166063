use Rattle.bbs_model.specs.Valid.{IsValid}
use Rattle.route_tests.proofs.life.phase.Given as goal

abbrev pub invariant-loop-second : goal.invariant-loop-second
invariant-loop-second l = IsValid l.index.rows
