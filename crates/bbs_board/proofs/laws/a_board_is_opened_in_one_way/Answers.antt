use Rattle.bbs_board.proofs.Loaded.{one_board}
use Rattle.bbs_board.proofs.laws.a_board_is_opened_in_one_way.Goals as goal

pub returns : goal.returns
returns c = one_board
