use Rattle.bbs_laws.proofs.KeepRuns.{keeps_board, goes_on}
use Rattle.bbs_laws.proofs.laws.board_is_replayed.Goals as goal

pub returns-clause-keeps : goal.returns-clause-keeps
returns-clause-keeps c = keeps_board

pub returns-clause-goes_on : goal.returns-clause-goes_on
returns-clause-goes_on c = goes_on
