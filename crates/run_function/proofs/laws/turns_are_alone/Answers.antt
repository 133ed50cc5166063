use Rattle.run_function.proofs.TurnsAlone.{turns_are_alone}
use Rattle.run_function.proofs.laws.turns_are_alone.Goals as goal

pub returns : goal.returns
returns c = turns_are_alone
