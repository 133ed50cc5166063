use Rattle.round_theorem.proofs.Whole.{takes-all}
use Rattle.round_theorem.proofs.laws.complete_rounds_take_all.Goals as goal

pub returns : goal.returns
returns c = λ by now line s s' r h complete. takes-all by now line s s' r h complete
