use Rattle.converge_laws.proofs.PlanOps.{plan_of_round}
use Rattle.converge_laws.proofs.Runs.{run-ground}
use Rattle.converge_laws.proofs.WorkOps.{work_of_round}
use Rattle.converge_laws.proofs.laws.rounds_keep_the_ground.Goals as goal

pub returns : goal.returns
returns c = record {
  work = λ rows now valid. work_of_round rows now valid;
  plan = λ rows got now valid. plan_of_round rows got now valid;
  ground = λ rows now cs of_round. run-ground rows now cs of_round;
}
