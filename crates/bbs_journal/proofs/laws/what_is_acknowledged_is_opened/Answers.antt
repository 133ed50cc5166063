use Rattle.bbs_journal.proofs.Stops.{acknowledged_opened}
use Rattle.bbs_journal.proofs.laws.what_is_acknowledged_is_opened.Goals as goal

pub returns : goal.returns
returns c = acknowledged_opened
