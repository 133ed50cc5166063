use Rattle.event_laws.proofs.Told.{shows}
use Rattle.event_laws.proofs.laws.events_show.Goals as goal

pub returns : goal.returns
returns c = shows
