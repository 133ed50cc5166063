use Rattle.round_theorem.proofs.Lost.{has-causes}
use Rattle.round_theorem.proofs.laws.rounds_lose_what_the_wire_lost.Goals as goal

pub returns : goal.returns
returns c = λ by now line s s' r h. has-causes by now line s s' r h
