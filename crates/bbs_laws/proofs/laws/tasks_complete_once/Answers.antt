use Rattle.bbs_laws.proofs.KeepOnce.{completes_once, once_over_openings}
use Rattle.bbs_laws.proofs.laws.tasks_complete_once.Goals as goal

pub returns-clause-once : goal.returns-clause-once
returns-clause-once c = completes_once

pub returns-clause-over_openings : goal.returns-clause-over_openings
returns-clause-over_openings c = once_over_openings
