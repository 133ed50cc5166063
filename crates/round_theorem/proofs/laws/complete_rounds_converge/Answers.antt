use Rattle.round_theorem.proofs.Converges.{complete-converges}
use Rattle.round_theorem.proofs.laws.complete_rounds_converge.Goals as goal

pub returns : goal.returns
returns c = λ by now line s s' r h apart complete. complete-converges by now line s s' r h apart complete
