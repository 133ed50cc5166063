use Rattle.bbs_journal.proofs.Accepted.{accepted}
use Rattle.bbs_journal.proofs.laws.what_is_recovered_is_opened.Goals as goal

pub returns : goal.returns
returns c = accepted
