use Rattle.event_laws.proofs.Told.{true_of}
use Rattle.event_laws.proofs.laws.due_events_say_so.Goals as goal

pub returns : goal.returns
returns c = true_of
