use Rattle.loss_cases.proofs.Survivals.{turns_survive}
use Rattle.loss_cases.proofs.laws.turns_survive.Goals as goal

pub returns : goal.returns
returns c = turns_survive
