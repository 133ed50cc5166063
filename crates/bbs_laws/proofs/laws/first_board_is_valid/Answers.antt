use Rattle.bbs_laws.proofs.First.{IsValid-no_rows}
use Rattle.bbs_laws.proofs.laws.first_board_is_valid.Goals as goal

pub returns : goal.returns
returns c = IsValid-no_rows
