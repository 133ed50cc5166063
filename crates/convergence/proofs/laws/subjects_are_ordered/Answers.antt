use Rattle.convergence.proofs.SubjectOrder.{IsKeyOrder-subject_order}
use Rattle.convergence.proofs.laws.subjects_are_ordered.Goals as goal

pub returns : goal.returns
returns c = IsKeyOrder-subject_order
