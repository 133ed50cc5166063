use Rattle.bbs_board.proofs.Completing.{completes_once_over_stops}
use Rattle.bbs_board.proofs.laws.tasks_complete_once_over_a_stop.Goals as goal

pub returns : goal.returns
returns c = completes_once_over_stops
