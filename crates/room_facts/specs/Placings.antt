-- What a placing of jobs on cells is, however it is found.
use Rattle.std.specs.Prelude.{◌≡◌, ℕ, Bool, true, false, List, filter}
use Rattle.std.specs.List.{All, Contains}
use Rattle.cell_records.specs.declared.job.Job.{Job}
use Rattle.cell_records.specs.declared.job_name.JobName.{JobName}
use Rattle.auction_scoring.specs.Fits.{IsWithin}
use Rattle.auctioneer.specs.Stands.{same_name}
use Rattle.auctioneer.specs.declared.placement.Placement.{Placement}
use Rattle.auctioneer.specs.declared.placement.Placement.TheVariants.{On, NoRoom}
use Rattle.auctioneer.specs.declared.stand.Stand.{Stand}
use Rattle.room_facts.specs.Rooms.{sums}

-- each job has a cell of its tag, and on each cell what its jobs ask for in all is within what is free
pub record IsPlacing (stands : List Stand) (jobs : List Job) (on : JobName → List ℕ) : Type 0 where
  pub tags : All (λ j. (s : Stand) × Contains stands s × (s.cell ≡ on j.job) × (s.tag ≡ j.tag)) jobs
  pub within : All (λ s. IsWithin (sums (filter (λ j. same_name (on j.job) s.cell) jobs)) s.free) stands

-- whether the job has a cell
abbrev pub is_placed : Placement → Bool
is_placed (On job cell) = true
is_placed (NoRoom job) = false

-- the function names the cell of the placement
abbrev pub GoesBy : (JobName → List ℕ) → Placement → Type 0
GoesBy on (On job cell) = on job ≡ cell
GoesBy on (NoRoom job) = Unit {0}

-- the job has the tag of the other, and asks for the same memory and disk
pub record IsAlike (size job : Job) : Type 0 where
  pub tag : job.tag ≡ size.tag
  pub memory : job.memory ≡ size.memory
  pub disk : job.disk ≡ size.disk
