-- How the plan's auction goes, job by job.
use Rattle.std.specs.Prelude.{◌≡◌, Bool, List, [], ◌∷◌, ◌++◌, is_some, map, filter, length}
use Rattle.cell_records.specs.declared.answer.Answer.{Answer}
use Rattle.cell_records.specs.declared.job.Job.{Job}
use Rattle.auctioneer.specs.Auction.{auction_from, placement_on}
use Rattle.auctioneer.specs.Least.{best}
use Rattle.auctioneer.specs.Order.{in_order}
use Rattle.auctioneer.specs.Stands.{stands_of}
use Rattle.auctioneer.specs.declared.stand.Stand.{Stand}
use Rattle.what_if.specs.Holders.{found_before, unplaced_by}
use Rattle.what_if.specs.Plans.{if_none, jobs_left, left_over, stands_from, without_jobs}
use Rattle.what_if.specs.Verdicts.{verdict_of}
use Rattle.what_if.specs.declared.placing.Outcome.{Outcome}
use Rattle.what_if.specs.declared.placing.Setting.{Setting}
use Rattle.what_if.specs.declared.plan.Plan.{Plan}
use Rattle.what_if.specs.declared.standing.Holders.{Holders}

-- one more job is placed on cells that stand so: its placement is told, and why it has no room if no cell fits it
pub record PlacesOne (setting : Setting) (job : Job) (stands : List Stand) (old new : Outcome) : Type 0 where
  pub placements : new.placements ≡ old.placements ++ placement_on job (best stands job) ∷ []
  pub left : new.left ≡ old.left ++ if_none (best stands job) job []
  pub without_room : new.without_room ≡ old.without_room
      ++ if_none (best stands job) (unplaced_by setting.holders.now setting.before.now setting.jobs.now stands job) []

-- all jobs are placed on cells that stand so, which then stand otherwise
pub record PlacesAll (setting : Setting) (old : List Stand) (outcome : Outcome) (new : List Stand) : Type 0 where
  pub placements : outcome.placements ≡ auction_from old setting.jobs.now
  pub left : outcome.left ≡ jobs_left old setting.jobs.now
  pub without_room : outcome.without_room ≡
      left_over (unplaced_by setting.holders.now setting.before.now setting.jobs.now) old setting.jobs.now
  pub stands : new ≡ stands_from old setting.jobs.now

-- whether a cell held the job before the loss, as it is looked up
abbrev pub was_held : Holders → Job → Bool
was_held before j = is_some (found_before before j.job)

-- the plan of jobs in the order of the auction, on cells that stand so
abbrev pub planned_from : Holders → List Stand → List Job → List Job → Plan
planned_from before stands waiting jobs = record {
  jobs = jobs;
  before = map without_jobs stands;
  placements = auction_from stands jobs;
  left = jobs_left stands jobs;
  without_room = left_over (unplaced_by before (map without_jobs stands) jobs) stands jobs;
  stands = stands_from stands jobs;
  displaced = length (filter (was_held before) waiting);
  verdict = verdict_of (map without_jobs stands) jobs (filter (was_held before) (jobs_left stands jobs));
}

-- the plan of what waits, on cells that answered so
abbrev pub planned_on : Holders → List Answer → List Job → Plan
planned_on before cells waiting = planned_from before (stands_of cells) waiting (in_order waiting)

-- a plan without the jobs that the cells have behind it
abbrev pub bare_plan : Plan → Plan
bare_plan p = record p { stands = map without_jobs p.stands }
