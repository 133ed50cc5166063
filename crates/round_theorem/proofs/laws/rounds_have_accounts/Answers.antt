use Rattle.round_theorem.proofs.Accounted.{has-account}
use Rattle.round_theorem.proofs.laws.rounds_have_accounts.Goals as goal

pub returns : goal.returns
returns c = λ by now line s s' r h. has-account by now line s s' r h
