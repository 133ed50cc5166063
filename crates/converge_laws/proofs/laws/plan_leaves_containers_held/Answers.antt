use Rattle.converge_laws.proofs.PlanStage.{plan-leaves_held}
use Rattle.converge_laws.proofs.laws.plan_leaves_containers_held.Goals as goal

pub returns : goal.returns
returns c = λ rows got stores now valid worked heard taken.
    plan-leaves_held rows got stores now valid worked heard taken
