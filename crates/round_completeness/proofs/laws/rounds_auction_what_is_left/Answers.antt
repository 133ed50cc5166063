use Rattle.round_completeness.proofs.Openings.{what-is-left}
use Rattle.round_completeness.proofs.laws.rounds_auction_what_is_left.Goals as goal

pub returns : goal.returns
returns c = λ by now line s s' r h apart. what-is-left by now line s s' r h apart
