use Rattle.bbs_journal.proofs.Newer.{recovers_once}
use Rattle.bbs_journal.proofs.laws.an_image_is_recovered_once.Goals as goal

pub returns : goal.returns
returns c = recovers_once
