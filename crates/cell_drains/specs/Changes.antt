-- What a step of a drain changes, as it is looked up.
use Rattle.std.specs.Prelude.{◌≡◌, ℕ, Bool, false, List, [], Option, Some, None, if◌then◌else◌, unwrap_or}
use Rattle.std.specs.HashMap.{get}
use Rattle.std.specs.HashSet.{contains}
use Rattle.std.specs.List.{list_any}
use Rattle.cell_records.specs.declared.answer.Answer.{Answer}
use Rattle.cell_records.specs.declared.job.Job.{Job}
use Rattle.cell_records.specs.declared.job_name.JobName.{JobName}
use Rattle.cell_records.specs.declared.job_name.JobName.TheVariants.{Lrp, Task}
use Rattle.auctioneer.specs.Stands.{same_name}
use Rattle.auctioneer.specs.declared.placement.Placement.{Placement}
use Rattle.auctioneer.specs.declared.placement.Placement.TheVariants.{On, NoRoom}
use Rattle.what_if.specs.Stays.{is_lost}
use Rattle.cell_drains.specs.Steps.{emptied, jobs_on, leaves, with_jobs}
use Rattle.cell_drains.specs.declared.changes.Change.{Change}
use Rattle.cell_drains.specs.declared.groups.Groups.{Groups}

-- the jobs on that cell, and none where the cell isn't found
abbrev pub jobs_by : Groups → List ℕ → List Job
jobs_by groups cell = unwrap_or (get same_name groups.jobs cell) []

-- on each cell are the jobs that were placed there, in their order
abbrev pub AreGroups : List Job → List Placement → Groups → Type 0
AreGroups jobs placements groups = (cell : List ℕ) → jobs_by groups cell ≡ jobs_on cell jobs placements

-- the task of that job name
abbrev pub task_in : JobName → Option (List ℕ)
task_in (Task name) = Some name
task_in (Lrp key) = None

-- the task that the placement leaves without room
abbrev pub task_left : Placement → Option (List ℕ)
task_left (NoRoom job) = task_in job
task_left (On job cell) = None

-- a cell after the step
abbrev pub changed_by : Change → Answer → Answer
changed_by change c =
    if contains same_name change.gone c.cell then emptied c else with_jobs (jobs_by change.placed c.cell) c

-- whether the job is a task that still waits
abbrev pub waits_by : Change → JobName → Bool
waits_by change (Task name) = contains same_name change.left name
waits_by change (Lrp key) = false

-- the batch is gone, the jobs are where they were placed, and the tasks that found no room are left
pub record IsChange (batch : List (List ℕ)) (jobs : List Job) (placements : List Placement) (change : Change) : Type 0 where
  pub gone : (cell : List ℕ) → contains same_name change.gone cell ≡ is_lost batch cell
  pub placed : AreGroups jobs placements change.placed
  pub left : (name : List ℕ) → contains same_name change.left name ≡ list_any (leaves (Task name)) placements
