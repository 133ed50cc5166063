use Rattle.round_theorem.proofs.FairRuns.{plan-refused}
use Rattle.round_theorem.proofs.laws.plan_is_refused_for_room.Goals as goal

pub returns : goal.returns
returns c = plan-refused
