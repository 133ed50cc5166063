-- The site after a step of a drain.
use Rattle.std.specs.Prelude.{ℕ, ◌+◌, ◌-◌, ◌≤◌, Bool, false, List, [], ◌++◌, map, filter, fold, length, min, if◌then◌else◌}
use Rattle.std.specs.List.{All, list_any, zip}
use Rattle.cell_records.specs.declared.answer.Answer.{Answer}
use Rattle.cell_records.specs.declared.container.Container.{Container}
use Rattle.cell_records.specs.declared.container_state.ContainerState.TheVariants.{Running}
use Rattle.cell_records.specs.declared.job.Job.{Job}
use Rattle.cell_records.specs.declared.job_name.JobName.{JobName}
use Rattle.cell_records.specs.declared.job_name.JobName.TheVariants.{Lrp, Task}
use Rattle.auctioneer.specs.Stands.{less, same_name}
use Rattle.auctioneer.specs.declared.placement.Placement.{Placement}
use Rattle.auctioneer.specs.declared.placement.Placement.TheVariants.{On, NoRoom}
use Rattle.what_if.specs.Plans.{jobs_of_loss, plan}
use Rattle.what_if.specs.Stays.{is_lost}
use Rattle.what_if.specs.declared.site.Site.{Site}

-- a cell takes no more containers than its totals leave beside those that it has
abbrev pub levelled_cell : Answer → Answer
levelled_cell c =
    record c { free = record c.free { containers = min c.free.containers (c.totals.containers - length c.containers) } }

-- the site with all its cells so
abbrev pub levelled : Site → Site
levelled site = record site { cells = map levelled_cell site.cells }

-- no cell takes more containers than its totals leave beside those that it has
abbrev pub IsLevel : Site → Type 0
IsLevel site = All (λ c. length c.containers + c.free.containers ≤ c.totals.containers) site.cells

-- whether the placement is on that cell
abbrev pub is_on : List ℕ → Placement → Bool
is_on cell (On job other) = same_name cell other
is_on cell (NoRoom job) = false

-- the jobs that were placed on that cell, in their order
abbrev pub jobs_on : List ℕ → List Job → List Placement → List Job
jobs_on cell jobs placements = map (λ p. p.0) (filter (λ p. is_on cell p.1) (zip jobs placements))

-- a job as a container that runs; no plan reads numbers, so it has none
abbrev pub job_container : Job → Container
job_container j = record {
  instance = record { epoch = 0; number = 0 };
  job = j.job;
  memory = j.memory;
  disk = j.disk;
  state = Running;
}

-- the cell with the jobs on it
abbrev pub with_jobs : List Job → Answer → Answer
with_jobs jobs c = record c {
  free = fold less c.free jobs;
  containers = c.containers ++ map job_container jobs;
}

-- the cell as it comes back: empty, and not being emptied
abbrev pub emptied : Answer → Answer
emptied c = record c { evacuating = false; free = c.totals; containers = [] }

-- a cell after a step: emptied if it is of the batch, else with what was placed on it
abbrev pub after_batch : List (List ℕ) → List Job → List Placement → Answer → Answer
after_batch batch jobs placements c =
    if is_lost batch c.cell then emptied c else with_jobs (jobs_on c.cell jobs placements) c

-- whether the placement leaves a task of that name without room
abbrev pub leaves : JobName → Placement → Bool
leaves (Task name) (NoRoom (Task other)) = same_name name other
leaves (Task name) (NoRoom (Lrp key)) = false
leaves (Task name) (On job cell) = false
leaves (Lrp key) p = false

-- the site after the batch was emptied: what was placed stays there, and the tasks that found no room still wait
abbrev pub after_step : Site → List (List ℕ) → Site
after_step site batch = record site {
  cells = map (after_batch batch (jobs_of_loss site batch) (plan site batch)) site.cells;
  pending = filter (λ j. list_any (leaves j.job) (plan site batch)) site.pending;
}
