use Rattle.bbs_model.specs.Valid.{IsValid}
use Rattle.route_tests.proofs.life.live.Given as goal

abbrev pub invariant-loop-number : goal.invariant-loop-number
invariant-loop-number g l = IsValid l.index.rows
