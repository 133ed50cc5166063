use Rattle.cell_rep.proofs.Starts.{reps_answer as law}
use Rattle.cell_rep.proofs.laws.reps_answer.Goals as goal

pub returns : goal.returns
returns c = law
