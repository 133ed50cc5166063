use Rattle.forecast_laws.proofs.Foretold.{plan_is_round}
use Rattle.forecast_laws.proofs.laws.plans_are_rounds.Goals as goal

pub returns : goal.returns
returns c = λ by now line s s' r h site lost reads. plan_is_round by now line s s' r h site lost reads
