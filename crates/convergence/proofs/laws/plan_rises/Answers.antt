use Rattle.convergence.proofs.PlanProofs.{plan_rises}
use Rattle.convergence.proofs.laws.plan_rises.Goals as goal

pub returns : goal.returns
returns c = λ rows answers now valid. plan_rises rows answers now valid
