use Rattle.round_theorem.proofs.Lost.{hear-what-gets-through}
use Rattle.round_theorem.proofs.laws.rounds_hear_what_gets_through.Goals as goal

pub returns : goal.returns
returns c = hear-what-gets-through
