use Rattle.bbs_board.proofs.Outcomes.{opens_or_is_refused}
use Rattle.bbs_board.proofs.laws.an_image_is_a_board_or_refused.Goals as goal

pub returns : goal.returns
returns c = opens_or_is_refused
