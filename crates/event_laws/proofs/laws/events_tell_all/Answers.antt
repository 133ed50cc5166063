use Rattle.event_laws.proofs.Told.{tells_all}
use Rattle.event_laws.proofs.laws.events_tell_all.Goals as goal

pub returns : goal.returns
returns c = tells_all
