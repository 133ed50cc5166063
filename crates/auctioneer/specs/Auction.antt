-- The auction: each job in turn goes to the best cell, with what the jobs before it have taken.
use Rattle.std.specs.Prelude.{List, [], ◌∷◌, Option, Some, None}
use Rattle.cell_records.specs.declared.answer.Answer.{Answer}
use Rattle.cell_records.specs.declared.job.Job.{Job}
use Rattle.auctioneer.specs.Least.{best}
use Rattle.auctioneer.specs.Stands.{stands_of, placed}
use Rattle.auctioneer.specs.declared.placement.Placement.{Placement}
use Rattle.auctioneer.specs.declared.placement.Placement.TheVariants.{On, NoRoom}
use Rattle.auctioneer.specs.declared.stand.Stand.{Stand}

-- where the job goes
abbrev pub placement_on : Job → Option Stand → Placement
placement_on job None = NoRoom job.job
placement_on job (Some s) = On job.job s.cell

-- the cells after the job
abbrev pub stands_with : Job → Option Stand → List Stand → List Stand
stands_with job None stands = stands
stands_with job (Some s) stands = placed job s.cell stands

-- the placements of the jobs, one after the other
abbrev pub auction_from : List Stand → List Job → List Placement
auction_from stands [] = []
auction_from stands (job ∷ jobs) =
    placement_on job (best stands job) ∷ auction_from (stands_with job (best stands job) stands) jobs

-- the placements of the jobs on cells that answered so
abbrev pub auction : List Answer → List Job → List Placement
auction answers jobs = auction_from (stands_of answers) jobs
