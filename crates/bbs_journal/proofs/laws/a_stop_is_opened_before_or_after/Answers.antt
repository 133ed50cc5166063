use Rattle.bbs_journal.proofs.Stops.{stops_opened}
use Rattle.bbs_journal.proofs.laws.a_stop_is_opened_before_or_after.Goals as goal

pub returns : goal.returns
returns c = stops_opened
