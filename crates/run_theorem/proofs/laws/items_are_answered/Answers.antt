use Rattle.run_theorem.proofs.ItemsAnswered.{items_answered}
use Rattle.run_theorem.proofs.laws.items_are_answered.Goals as goal

pub returns : goal.returns
returns c = items_answered
