use Rattle.event_laws.proofs.Told.{follows}
use Rattle.event_laws.proofs.laws.events_lead_along.Goals as goal

pub returns : goal.returns
returns c = follows
