use Rattle.bbs_board.proofs.Storing.{stops_leave_boards}
use Rattle.bbs_board.proofs.laws.a_stop_leaves_the_board_before_or_after.Goals as goal

pub returns : goal.returns
returns c = stops_leave_boards
