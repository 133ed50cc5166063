use Rattle.convergence.proofs.WorkLaws.{work_is_by_subject}
use Rattle.convergence.proofs.laws.work_is_by_subject.Goals as goal

pub returns : goal.returns
returns c = λ rows now command valid. work_is_by_subject rows now command valid
