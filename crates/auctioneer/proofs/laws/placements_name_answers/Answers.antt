use Rattle.auctioneer.proofs.AuctionLaws.{names_answers}
use Rattle.auctioneer.proofs.laws.placements_name_answers.Goals as goal

pub returns : goal.returns
returns c = names_answers
