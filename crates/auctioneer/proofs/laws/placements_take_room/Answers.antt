use Rattle.auctioneer.specs.Stands.{stands_of}
use Rattle.auctioneer.proofs.AuctionLaws.{takes_room}
use Rattle.auctioneer.proofs.laws.placements_take_room.Goals as goal

pub returns : goal.returns
returns c = λ cells jobs. takes_room (stands_of cells) jobs
