use Rattle.round_completeness.proofs.Ready.{decline-none}
use Rattle.round_completeness.proofs.laws.rounds_decline_no_start.Goals as goal

pub returns : goal.returns
returns c = λ by now line s s' r h apart. decline-none by now line s s' r h apart
