use Rattle.convergence.proofs.PlanProofs.{plan_is_by_subject}
use Rattle.convergence.proofs.laws.plan_is_by_subject.Goals as goal

pub returns : goal.returns
returns c = λ rows answers now command valid. plan_is_by_subject rows answers now command valid
