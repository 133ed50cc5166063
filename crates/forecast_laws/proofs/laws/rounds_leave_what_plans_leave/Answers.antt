use Rattle.forecast_laws.proofs.Found.{round_leaves}
use Rattle.forecast_laws.proofs.laws.rounds_leave_what_plans_leave.Goals as goal

pub returns : goal.returns
returns c = λ by now line s s' r h site lost reads. round_leaves by now line s s' r h site lost reads
