use Rattle.standby_board.proofs.Reaching.{numbers_rise}
use Rattle.standby_board.proofs.laws.numbers_rise_over_take_overs.Goals as goal

pub returns : goal.returns
returns c = numbers_rise
