-- The plan of a loss: the auction of what waits on the open cells.
use Rattle.std.specs.Prelude.{ℕ, Bool, true, false, not, List, [], ◌∷◌, map, filter, length, Option, Some, None}
use Rattle.cell_records.specs.declared.job.Job.{Job}
use Rattle.cell_records.specs.declared.job_name.JobName.{JobName}
use Rattle.auctioneer.specs.Auction.{auction, stands_with}
use Rattle.auctioneer.specs.Least.{best}
use Rattle.auctioneer.specs.Order.{in_order}
use Rattle.auctioneer.specs.Stands.{stands_of}
use Rattle.auctioneer.specs.declared.placement.Placement.{Placement}
use Rattle.auctioneer.specs.declared.placement.Placement.TheVariants.{On, NoRoom}
use Rattle.auctioneer.specs.declared.stand.Stand.{Stand}
use Rattle.forecast_records.specs.declared.unplaced.Unplaced.{Unplaced}
use Rattle.forecast_records.specs.declared.verdict.Verdict.{Verdict}
use Rattle.room_facts.specs.Reasons.{reasons_of, most_free}
use Rattle.room_facts.specs.Rooms.{as_large, room_for}
use Rattle.what_if.specs.Stays.{open_cells}
use Rattle.what_if.specs.Verdicts.{verdict_of}
use Rattle.what_if.specs.Waiting.{waits, displaced, is_displaced}
use Rattle.what_if.specs.declared.plan.Plan.{Plan}
use Rattle.what_if.specs.declared.site.Site.{Site}

-- what waits, in the order of the auction
abbrev pub jobs_of_loss : Site → List (List ℕ) → List Job
jobs_of_loss site lost = in_order (waits site lost)

-- the open cells before the first job
abbrev pub stands_before : Site → List (List ℕ) → List Stand
stands_before site lost = stands_of (open_cells site lost)

-- the cell as far as room goes: its jobs aren't told
abbrev pub without_jobs : Stand → Stand
without_jobs s = record s { jobs = [] }

-- whether the job found no room
abbrev pub is_left : Placement → Bool
is_left (On job cell) = false
is_left (NoRoom job) = true

-- where each job goes
abbrev pub plan : Site → List (List ℕ) → List Placement
plan site lost = auction (open_cells site lost) (jobs_of_loss site lost)

-- the cells after the jobs, each in turn on the best cell for it
abbrev pub stands_from : List Stand → List Job → List Stand
stands_from stands [] = stands
stands_from stands (job ∷ jobs) = stands_from (stands_with job (best stands job) stands) jobs

-- the open cells with all that was placed
abbrev pub stands_then : Site → List (List ℕ) → List Stand
stands_then site lost = stands_from (stands_before site lost) (jobs_of_loss site lost)

-- one more, if there is no best cell
abbrev pub if_none : {X : Type 0} → Option Stand → X → List X → List X
if_none None x xs = x ∷ xs
if_none (Some s) x xs = xs

-- what is told of each job that has no best cell when its turn comes, with the cells as its turn finds them
abbrev pub left_over : {X : Type 0} → (List Stand → Job → X) → List Stand → List Job → List X
left_over tell stands [] = []
left_over tell stands (job ∷ jobs) =
    if_none (best stands job) (tell stands job) (left_over tell (stands_with job (best stands job) stands) jobs)

-- the jobs without room
abbrev pub jobs_left : List Stand → List Job → List Job
jobs_left stands jobs = left_over (λ turn job. job) stands jobs

-- why a job has no room: what it lacks at its turn, and how much room there was for its size before the first job
abbrev pub unplaced_at : (JobName → Bool) → List Stand → List Job → List Stand → Job → Unplaced
unplaced_at waited before jobs turn job = record {
  job = job.job;
  memory = job.memory;
  disk = job.disk;
  tag = job.tag;
  waited = waited job.job;
  reasons = reasons_of job turn;
  most_free = most_free job.tag turn;
  as_large = as_large job jobs;
  room_for = room_for job before;
}

-- why each job without room has none
abbrev pub unplaced_from : (JobName → Bool) → List Stand → List Job → List Unplaced
unplaced_from waited before jobs = left_over (unplaced_at waited before jobs) before jobs

-- why each job without room has none, in the order of the auction
abbrev pub unplaced_of : Site → List (List ℕ) → List Unplaced
unplaced_of site lost =
    unplaced_from (λ j. not (is_displaced site j)) (stands_before site lost) (jobs_of_loss site lost)

-- the jobs without room
abbrev pub left_of : Site → List (List ℕ) → List Job
left_of site lost = jobs_left (stands_before site lost) (jobs_of_loss site lost)

-- those of them that are displaced
abbrev pub displaced_left : Site → List (List ℕ) → List Job
displaced_left site lost = filter (λ j. is_displaced site j.job) (left_of site lost)

-- of the displaced jobs
abbrev pub verdict_of_loss : Site → List (List ℕ) → Verdict
verdict_of_loss site lost = verdict_of (stands_before site lost) (jobs_of_loss site lost) (displaced_left site lost)

-- the plan with these cells lost
abbrev pub planned : Site → List (List ℕ) → Plan
planned site lost = record {
  jobs = jobs_of_loss site lost;
  before = map without_jobs (stands_before site lost);
  placements = plan site lost;
  left = left_of site lost;
  without_room = unplaced_of site lost;
  stands = stands_then site lost;
  displaced = length (displaced site lost);
  verdict = verdict_of_loss site lost;
}
