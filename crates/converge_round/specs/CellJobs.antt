-- The jobs of each cell, kept by its name.
use Rattle.std.specs.Prelude.{◌≡◌, ℕ, List, [], ◌++◌, Option, if◌then◌else◌}
use Rattle.std.specs.BTreeMap.{get}
use Rattle.std.specs.Option.{option_to_list, unwrap_or}
use Rattle.diego_names.specs.Order.{name_order}
use Rattle.auctioneer.specs.Stands.{same_name}
use Rattle.auctioneer.specs.declared.placement.Placement.{Placement}
use Rattle.cell_records.specs.declared.job.Job.{Job}
use Rattle.bbs_model.specs.declared.rows.Rows.{Rows}
use Rattle.converge_round.specs.Places.{jobs_on, job_on}
use Rattle.converge_round.specs.declared.cell_jobs.CellJobs.{CellJobs}

-- the jobs that are kept for a cell
abbrev pub jobs_at : CellJobs → List ℕ → List Job
jobs_at kept cell = unwrap_or (get name_order kept.lists cell) []

-- a job, if there is one, is kept for one cell
abbrev pub IsAdded : List ℕ → Option Job → CellJobs → CellJobs → Type 0
IsAdded cell job old new =
    (other : List ℕ) → jobs_at new other ≡ jobs_at old other ++ (if same_name cell other then option_to_list job else [])

-- the job of a placement is kept for its cell, if it has one
abbrev pub KeepsJob : Rows → Placement → CellJobs → CellJobs → Type 0
KeepsJob rows p old new = (cell : List ℕ) → jobs_at new cell ≡ jobs_at old cell ++ option_to_list (job_on rows cell p)

-- for each cell the jobs are kept that go to it
pub record AreCellJobs (rows : Rows) (list : List Placement) (kept : CellJobs) : Type 0 where
  pub each : (cell : List ℕ) → jobs_at kept cell ≡ jobs_on rows list cell
