use Rattle.convergence.proofs.WorkLaws.{work_rises}
use Rattle.convergence.proofs.laws.work_rises.Goals as goal

pub returns : goal.returns
returns c = λ rows now valid. work_rises rows now valid
