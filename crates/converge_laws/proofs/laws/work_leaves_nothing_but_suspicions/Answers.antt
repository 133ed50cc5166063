use Rattle.converge_laws.proofs.WorkStage.{work-leaves_suspicions}
use Rattle.converge_laws.proofs.laws.work_leaves_nothing_but_suspicions.Goals as goal

pub returns : goal.returns
returns c = λ rows now valid taken. work-leaves_suspicions rows now valid taken
