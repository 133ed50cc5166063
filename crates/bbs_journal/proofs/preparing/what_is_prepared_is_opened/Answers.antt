use Rattle.bbs_journal.proofs.Resuming.{opens_empty}
use Rattle.bbs_journal.proofs.preparing.what_is_prepared_is_opened.Goals as goal

pub returns : goal.returns
returns c = opens_empty
