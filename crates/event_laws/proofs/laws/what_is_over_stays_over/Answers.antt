use Rattle.event_laws.proofs.Over.{stays_over, once_in_all}
use Rattle.event_laws.proofs.laws.what_is_over_stays_over.Goals as goal

pub returns-clause-stays : goal.returns-clause-stays
returns-clause-stays c = stays_over

pub returns-clause-once : goal.returns-clause-once
returns-clause-once c = once_in_all
