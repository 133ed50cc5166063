use Rattle.round_theorem.proofs.FairRuns.{work-refused}
use Rattle.round_theorem.proofs.laws.work_is_refused_for_room.Goals as goal

pub returns : goal.returns
returns c = work-refused
