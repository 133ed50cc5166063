use Rattle.bbs_journal.proofs.Keeping.{takes_two}
use Rattle.bbs_journal.proofs.Turning.{write_made}
use Rattle.bbs_journal.proofs.synced.write_synced.Goals as goal

pub returns-clause-does : goal.returns-clause-does
returns-clause-does g c = write_made _ _ _ _ _ _ _ c.in_ok-write_at.ensures.does c.sync.ensures.does

pub returns-clause-calls : goal.returns-clause-calls
returns-clause-calls g c = takes_two _ _ _ _ c.in_ok-write_at.ensures.time c.sync.ensures.time
