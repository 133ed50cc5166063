use Rattle.run_function.proofs.ActsAlone.{evacuated_alone}
use Rattle.run_function.proofs.laws.evacuations_are_alone.Goals as goal

pub returns : goal.returns
returns c = evacuated_alone
