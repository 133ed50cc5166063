use Rattle.work_causes.proofs.Alike.{alike}
use Rattle.work_causes.proofs.laws.causes_are_alike.Goals as goal

pub returns : goal.returns
returns c s old new h = alike s old new h
