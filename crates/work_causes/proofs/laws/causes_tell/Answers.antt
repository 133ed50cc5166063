use Rattle.work_causes.proofs.Tell.{tell}
use Rattle.work_causes.proofs.laws.causes_tell.Goals as goal

pub returns : goal.returns
returns c rows now s v = tell rows now s v
