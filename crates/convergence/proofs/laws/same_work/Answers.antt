use Rattle.convergence.specs.Subjects.{subject_order, subject_in}
use Rattle.convergence.proofs.Members.{same_members}
use Rattle.convergence.proofs.SubjectOrder.{IsKeyOrder-subject_order}
use Rattle.convergence.proofs.laws.same_work.Goals as goal

pub returns : goal.returns
returns c = same_members subject_order subject_in IsKeyOrder-subject_order
