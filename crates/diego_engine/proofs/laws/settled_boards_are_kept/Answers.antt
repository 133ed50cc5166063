use Rattle.diego_engine.proofs.Restarts.{keeps_settled}
use Rattle.diego_engine.proofs.laws.settled_boards_are_kept.Goals as goal

pub returns : goal.returns
returns c = keeps_settled
