use Rattle.auctioneer.proofs.AuctionLaws.{spreads}
use Rattle.auctioneer.proofs.laws.placements_spread_over_zones.Goals as goal

pub returns : goal.returns
returns c = spreads
