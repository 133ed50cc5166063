use Rattle.round_completeness.proofs.Whole.{complete-round}
use Rattle.round_completeness.proofs.laws.rounds_that_nothing_disturbs_are_complete.Goals as goal

pub returns : goal.returns
returns c = λ by now line s s' r h u. complete-round by now line s s' r h u
