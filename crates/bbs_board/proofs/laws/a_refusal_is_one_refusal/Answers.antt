use Rattle.bbs_board.proofs.Outcomes.{refuses_once}
use Rattle.bbs_board.proofs.laws.a_refusal_is_one_refusal.Goals as goal

pub returns : goal.returns
returns c = refuses_once
