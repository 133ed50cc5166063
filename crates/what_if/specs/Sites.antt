-- The site that a dump tells.
use Rattle.std.specs.Prelude.{ℕ, zero, suc, ◌+◌, ◌-◌, ◌^◌, ◌≤◌, Bool, true, false, ◌&&◌, not, List, [], ◌∷◌, ◌++◌, map, filter, fold, length, max, min, Option, None, if◌then◌else◌}
use Rattle.std.specs.List.{list_any, filter_map, flat_map, find}
use Rattle.std.specs.Option.{option_map, option_and_then}
use Rattle.diego_names.specs.declared.key.Key.{Key}
use Rattle.diego_names.specs.Key.{key_order}
use Rattle.diego_names.specs.Order.{name_order}
use Rattle.row_tables.specs.Table.{table}
use Rattle.cell_records.specs.declared.answer.Answer.{Answer}
use Rattle.cell_records.specs.declared.container.Container.{Container}
use Rattle.cell_records.specs.declared.container_state.ContainerState.{ContainerState}
use Rattle.cell_records.specs.declared.container_state.ContainerState.TheVariants.{Running, Completed}
use Rattle.cell_records.specs.declared.job.Job.{Job}
use Rattle.cell_records.specs.declared.job_name.JobName.TheVariants.{Lrp, Task}
use Rattle.auctioneer.specs.Asked.{AreAnswers, AreJobs}
use Rattle.auctioneer.specs.Stands.{same_name}
use Rattle.dump_lines.specs.declared.cell_state.CellState.{CellState}
use Rattle.dump_lines.specs.declared.cell_state.InstanceOnCell.{InstanceOnCell}
use Rattle.dump_lines.specs.declared.cell_state.Place.{Place}
use Rattle.dump_lines.specs.declared.cell_state.TaskOnCell.{TaskOnCell}
use Rattle.dump_lines.specs.declared.rows.ActualRow.{ActualRow}
use Rattle.dump_lines.specs.declared.rows.DesiredRow.{DesiredRow}
use Rattle.dump_lines.specs.declared.rows.RowState.{RowState}
use Rattle.dump_lines.specs.declared.rows.RowState.TheVariants.{Unclaimed, Claimed, Running as IsRunning, Crashed}
use Rattle.dump_lines.specs.declared.rows.TaskRow.{TaskRow}
use Rattle.dump_reader.specs.declared.dump.Dump.{Dump}
use Rattle.what_if.specs.Stays.{same_key}
use Rattle.what_if.specs.Waiting.{instance_job}
use Rattle.what_if.specs.declared.site.Site.{Site}
use Rattle.what_if.specs.declared.site.Stay.{Stay}
use Rattle.what_if.specs.declared.site.Wanted.{Wanted}

-- the number of a process
abbrev pub key_of : InstanceOnCell → Key
key_of i = record { process = i.process; index = i.index }

-- how far the container of an instance has come
abbrev pub state_of : Bool → ContainerState
state_of ended = if ended then Completed false else Running

-- an instance as a container; a cell's containers have epoch 0, and numbers from 1
abbrev pub instance_container : ℕ → InstanceOnCell → Container
instance_container number i = record {
  instance = record { epoch = 0; number = number };
  job = Lrp (key_of i);
  memory = i.memory;
  disk = i.disk;
  state = state_of i.ended;
}

-- a task as a container
abbrev pub task_container : ℕ → TaskOnCell → Container
task_container number t = record {
  instance = record { epoch = 0; number = number };
  job = Task t.task;
  memory = t.memory;
  disk = t.disk;
  state = Running;
}

-- things as containers, numbered from there in the order of the list
abbrev pub numbered : {X : Type 0} → (ℕ → X → Container) → ℕ → List X → List Container
numbered container n [] = []
numbered container n (x ∷ xs) = container n x ∷ numbered container (n + 1) xs

-- the instances of a cell, then its tasks
abbrev pub containers_of : CellState → List Container
containers_of s =
    numbered instance_container 1 s.instances ++ numbered task_container (length s.instances + 1) s.tasks

-- what a cell told, as a rep would answer
abbrev pub answer_of : CellState → Answer
answer_of s = record {
  cell = s.place.cell;
  zone = s.place.zone;
  tag = s.tag;
  epoch = 0;
  evacuating = s.evacuating;
  totals = s.totals;
  free = s.free;
  last = length s.instances + length s.tasks;
  containers = containers_of s;
}

-- the cells that told their state, by name
abbrev pub cells_of : List CellState → List Answer
cells_of states = table name_order (λ c. c.cell) (map answer_of states)

-- whether the cell told its state
abbrev pub has_told : List CellState → List ℕ → Bool
has_told states cell = list_any (λ s. same_name cell s.place.cell) states

-- the cells that are listed and told no state
abbrev pub silent_of : Dump → List Place
silent_of dump = filter (λ p. not (has_told dump.states p.cell)) dump.listed

-- whether a row in this state has a container
abbrev pub has_started : RowState → Bool
has_started Unclaimed = false
has_started Claimed = true
has_started IsRunning = true
has_started Crashed = false

-- whether a row in this state has crashed
abbrev pub has_crashed : RowState → Bool
has_crashed Unclaimed = false
has_crashed Claimed = false
has_crashed IsRunning = false
has_crashed Crashed = true

-- the place of that cell among these
abbrev pub place_in : List Place → List ℕ → Option Place
place_in places cell = find (λ p. same_name cell p.cell) places

-- the instance on the place
abbrev pub stay_on : Key → Place → Stay
stay_on key p = record { key = key; cell = p.cell; zone = p.zone }

-- where a row says that its instance stands, if it is claimed or running on a silent cell
abbrev pub silent_stay : List Place → ActualRow → Option Stay
silent_stay silent r =
    if has_started r.state then option_map (stay_on r.instance) (option_and_then (place_in silent) r.cell) else None

-- the memory that the proxy beside an instance takes, the most that a cell tells
abbrev pub proxy_of : Dump → ℕ
proxy_of dump = fold (λ m s. max m s.proxy_memory) 0 dump.states

-- what an instance asks for with its proxy, up to the last number of 32 bits
abbrev pub with_proxy : ℕ → ℕ → ℕ
with_proxy proxy memory = min (memory + proxy) (2 ^ 32 - 1)

-- whether a row says that the instance has crashed
abbrev pub is_crashed : List ActualRow → Key → Bool
is_crashed rows key = list_any (λ r. has_crashed r.state && same_key key r.instance) rows

-- an instance of a desired process
abbrev pub desired_instance : Dump → DesiredRow → ℕ → Wanted
desired_instance dump d index = let key : Key = record { process = d.process; index = index } in record {
  key = key;
  memory = with_proxy (proxy_of dump) d.demand.memory;
  disk = d.demand.disk;
  tag = d.demand.tag;
  crashed = is_crashed dump.actual key;
}

-- what is made of the numbers below
abbrev pub each_below : {X : Type 0} → (ℕ → X) → ℕ → List X
each_below make zero = []
each_below make (suc n) = each_below make n ++ make n ∷ []

-- an instance that has a container
abbrev pub instance_there : Dump → InstanceOnCell → Wanted
instance_there dump i = record {
  key = key_of i;
  memory = with_proxy (proxy_of dump) i.memory;
  disk = i.disk;
  tag = i.tag;
  crashed = is_crashed dump.actual (key_of i);
}

-- the instances that have a container which has not ended
abbrev pub instances_there : Dump → CellState → List Wanted
instances_there dump s = map (instance_there dump) (filter (λ i. not i.ended) s.instances)

-- the instances below the number that each desired process has; without one those that have a container
abbrev pub instances_wanted : Dump → List DesiredRow → List Wanted
instances_wanted dump [] = flat_map (instances_there dump) (table name_order (λ s. s.place.cell) dump.states)
instances_wanted dump (d ∷ ds) = flat_map (λ r. each_below (desired_instance dump r) r.instances) (d ∷ ds)

-- what is wanted, by key; of two of one key the first
abbrev pub wanted_of : Dump → List Wanted
wanted_of dump = table key_order (λ w. w.key) (instances_wanted dump dump.desired)

-- a task as a job
abbrev pub task_job : TaskRow → Job
task_job t = record { job = Task t.task; memory = t.demand.memory; disk = t.demand.disk; tag = t.demand.tag }

-- whether there is something in the list
abbrev pub is_some_row : {X : Type 0} → List X → Bool
is_some_row [] = false
is_some_row (x ∷ xs) = true

-- the site that a dump tells
abbrev pub site_of : Dump → Site
site_of dump = record {
  cells = cells_of dump.states;
  silent = silent_of dump;
  silent_stays = filter_map (silent_stay (silent_of dump)) dump.actual;
  wanted = wanted_of dump;
  pending = map task_job (filter (λ t. t.waits) dump.tasks);
  told_desired = is_some_row dump.desired;
}

-- what every site keeps: its cells may be an auction's, and whichever of its instances wait, no two jobs have one name
pub record IsSite (site : Site) : Type 0 where
  pub cells : AreAnswers site.cells
  pub jobs : (p : Wanted → Bool) → AreJobs (map instance_job (filter p site.wanted) ++ site.pending)
  pub few : length site.wanted + length site.pending ≤ 2 ^ 32
