use Rattle.round_completeness.proofs.ByEnds.{by-ends}
use Rattle.round_completeness.proofs.laws.rounds_lose_by_the_ends.Goals as goal

pub returns : goal.returns
returns c = λ by now line s s' r h ends apart told steady. by-ends by now line s s' r h ends apart told steady
