use Rattle.standby_board.proofs.Reaching.{reached}
use Rattle.standby_board.proofs.laws.beginnings_are_reached.Goals as goal

pub returns : goal.returns
returns c = reached
