use Rattle.round_theorem.proofs.FairRound.{alone-refused}
use Rattle.round_theorem.proofs.laws.rounds_alone_are_refused_for_room.Goals as goal

pub returns : goal.returns
returns c = λ by now line s s' r h apart none x inside. alone-refused by now line s s' r h apart none x inside
