use Rattle.bbs_journal.proofs.Recovered.{ready}
use Rattle.bbs_journal.proofs.laws.what_is_recovered_takes_frames.Goals as goal

pub returns : goal.returns
returns c = ready
