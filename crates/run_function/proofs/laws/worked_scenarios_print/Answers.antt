use Rattle.run_function.proofs.Worked.{worked_out}
use Rattle.run_function.proofs.laws.worked_scenarios_print.Goals as goal

pub returns : goal.returns
returns c = worked_out
