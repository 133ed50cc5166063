use Rattle.bbs_journal.proofs.Recovered.{recovered}
use Rattle.bbs_journal.proofs.laws.what_is_opened_is_recovered.Goals as goal

pub returns : goal.returns
returns c = recovered
