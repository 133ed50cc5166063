use Rattle.route_emitter.proofs.Logs.{follows-log}
use Rattle.route_emitter.proofs.laws.emitters_follow_boards.Goals as goal

pub returns : goal.returns
returns c = follows-log c.events_tell_all.ensures
