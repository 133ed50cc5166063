use Rattle.auctioneer.specs.Stands.{stands_of}
use Rattle.auctioneer.proofs.AuctionLaws.{jobs_placed}
use Rattle.auctioneer.proofs.laws.each_job_has_one_placement.Goals as goal

pub returns : goal.returns
returns c = λ cells jobs. jobs_placed (stands_of cells) jobs
