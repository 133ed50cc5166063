-- The cells as they stand in an auction.
use Rattle.std.specs.Prelude.{ℕ, ◌-◌, Bool, true, false, not, if◌then◌else◌, List, [], ◌∷◌, ◌++◌, map, filter, count_by, sum_by, nat_eq}
use Rattle.std.specs.Cmp.Lexicographic.{pointwise}
use Rattle.diego_names.specs.Order.{name_order}
use Rattle.row_tables.specs.Table.{table}
use Rattle.cell_records.specs.declared.amounts.Amounts.{Amounts}
use Rattle.cell_records.specs.declared.answer.Answer.{Answer}
use Rattle.cell_records.specs.declared.container.Container.{Container}
use Rattle.cell_records.specs.declared.container_state.ContainerState.{ContainerState}
use Rattle.cell_records.specs.declared.container_state.ContainerState.TheVariants.{Reserved, Running, Completed}
use Rattle.cell_records.specs.declared.job.Job.{Job}
use Rattle.cell_records.specs.declared.job_name.JobName.{JobName}
use Rattle.cell_records.specs.declared.job_name.JobName.TheVariants.{Lrp, Task}
use Rattle.auction_scoring.specs.Fits.{fits}
use Rattle.auction_scoring.specs.Score.{score_of}
use Rattle.auction_scoring.specs.declared.cell_view.CellView.{CellView}
use Rattle.auction_scoring.specs.declared.scores.Score.{Score}
use Rattle.auctioneer.specs.declared.stand.Stand.{Stand}

-- whether two names are one
abbrev pub same_name : List ℕ → List ℕ → Bool
same_name = pointwise nat_eq

-- a container that ended by itself
abbrev pub has_ended : ContainerState → Bool
has_ended Reserved = false
has_ended Running = false
has_ended (Completed failed) = true

-- the jobs of the containers that have not ended
abbrev pub jobs_of : List Container → List JobName
jobs_of containers = map (λ c. c.job) (filter (λ c. not (has_ended c.state)) containers)

-- what an auction takes from a cell's answer
abbrev pub stand_of : Answer → Stand
stand_of a = record {
  cell = a.cell;
  zone = a.zone;
  tag = a.tag;
  totals = a.totals;
  free = a.free;
  jobs = jobs_of a.containers;
}

-- the cells in the order of their names
abbrev pub stands_of : List Answer → List Stand
stands_of answers = table name_order (λ s. s.cell) (map stand_of answers)

-- whether both are instances of one process; a task is of none
abbrev pub is_of : JobName → JobName → Bool
is_of (Lrp a) (Lrp b) = same_name a.process b.process
is_of (Lrp a) (Task b) = false
is_of (Task a) other = false

-- how many containers of the job's process the cell has
abbrev pub held_of : JobName → Stand → ℕ
held_of job s = count_by (is_of job) s.jobs

-- the same, if the cell is in that zone
abbrev pub held_in : JobName → List ℕ → Stand → ℕ
held_in job zone s = if same_name s.zone zone then held_of job s else 0

-- how many containers of the job's process all cells of the zone have
abbrev pub in_zone : List Stand → JobName → List ℕ → ℕ
in_zone stands job zone = sum_by (held_in job zone) stands

-- the cell as it is compared, with these counts
abbrev pub view_of : Stand → ℕ → ℕ → CellView
view_of s zone_count cell_count = record {
  cell = s.cell;
  tag = s.tag;
  totals = s.totals;
  free = s.free;
  in_zone = zone_count;
  on_cell = cell_count;
}

-- the cell as it is compared for the job
abbrev pub view_in : List Stand → JobName → Stand → CellView
view_in stands job s = view_of s (in_zone stands job s.zone) (held_of job s)

-- what the cell scores for the job
abbrev pub score_in : List Stand → JobName → Stand → Score
score_in stands job s = score_of (view_in stands job s)

-- whether the cell fits the job, by its tag and what it has free
abbrev pub can_take : Job → Stand → Bool
can_take job s = fits job (view_of s 0 0)

-- what is left once the job is there
abbrev pub less : Amounts → Job → Amounts
less free job = record {
  memory = free.memory - job.memory;
  disk = free.disk - job.disk;
  containers = free.containers - 1;
}

-- the cell with the job on it
abbrev pub with_job : Job → Stand → Stand
with_job job s = record s { free = less s.free job; jobs = s.jobs ++ job.job ∷ [] }

-- the cells with the job on the one of that name
abbrev pub placed : Job → List ℕ → List Stand → List Stand
placed job cell stands = map (λ s. if same_name s.cell cell then with_job job s else s) stands
