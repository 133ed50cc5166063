use Rattle.bbs_journal.proofs.Once.{opens_once}
use Rattle.bbs_journal.proofs.laws.an_image_is_opened_once.Goals as goal

pub returns : goal.returns
returns c = opens_once
