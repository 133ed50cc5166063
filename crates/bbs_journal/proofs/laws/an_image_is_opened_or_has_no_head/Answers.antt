use Rattle.bbs_journal.proofs.Outcomes.{opens_or_not}
use Rattle.bbs_journal.proofs.laws.an_image_is_opened_or_has_no_head.Goals as goal

pub returns : goal.returns
returns c = opens_or_not
