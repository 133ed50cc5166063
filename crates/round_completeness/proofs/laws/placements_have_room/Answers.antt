use Rattle.round_completeness.proofs.Auctions.{have-room}
use Rattle.round_completeness.proofs.laws.placements_have_room.Goals as goal

pub returns : goal.returns
returns c = λ rows cells valid are x inside. have-room rows cells valid are x inside
