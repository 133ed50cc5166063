use Rattle.std.proofs.Common.{rules}
use Rattle.bbs_journal.proofs.Reading.{shown_front}
use Rattle.bbs_journal.proofs.look.look.Goals as goal

pub returns-clause-shows : goal.returns-clause-shows
returns-clause-shows g c = shown_front _ _ _ _ _ (search rules) c.in_ok-count.ensures.bytes
