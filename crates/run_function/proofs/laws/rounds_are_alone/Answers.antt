use Rattle.run_function.proofs.RoundAlone.{round_is_alone}
use Rattle.run_function.proofs.laws.rounds_are_alone.Goals as goal

pub returns : goal.returns
returns c = round_is_alone
