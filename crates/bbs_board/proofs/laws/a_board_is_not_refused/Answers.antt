use Rattle.bbs_board.proofs.Loaded.{not_refused}
use Rattle.bbs_board.proofs.laws.a_board_is_not_refused.Goals as goal

pub returns : goal.returns
returns c = not_refused
