-- What a cell tells of itself.
use Rattle.std.specs.Prelude.{ℕ, ◌+◌, List, codes, Bool, false, ◌&&◌, length, nat_le, Option, Result, Ok, Err, if◌then◌else◌}
use Rattle.serde_json.specs.Data.{Data}
use Rattle.cell_records.specs.declared.amounts.Amounts.{Amounts}
use Rattle.dump_lines.specs.Faults.{◌>>=◌, ◌&◌}
use Rattle.dump_lines.specs.Listing.{all_in}
use Rattle.dump_lines.specs.Members.{has, is_filled_in, is_word_or, name_in, needed, number_in, number_or, said, truth_in}
use Rattle.dump_lines.specs.Tags.{tag_in}
use Rattle.dump_lines.specs.declared.cell.CellHead.{CellHead}
use Rattle.dump_lines.specs.declared.cell_state.CellState.{CellState}
use Rattle.dump_lines.specs.declared.cell_state.InstanceOnCell.{InstanceOnCell}
use Rattle.dump_lines.specs.declared.cell_state.Place.{Place}
use Rattle.dump_lines.specs.declared.cell_state.TaskOnCell.{TaskOnCell}
use Rattle.dump_lines.specs.declared.demand.Demand.{Demand}
use Rattle.dump_lines.specs.declared.fault.LineFault.{LineFault}
use Rattle.dump_lines.specs.declared.fault.LineFault.TheVariants.{BadAmounts}

-- a cell and its zone, whose member has two spellings
unfoldable pub place_in : List ℕ → Data → Result Place LineFault
place_in zone d = name_in (codes "cell_id") d & name_in zone d >>= λ (cell, zone). Ok (record { cell = cell; zone = zone })

-- what is asked for, by its parts
unfoldable pub demand_of : Result ℕ LineFault → Result ℕ LineFault → Result (Option (List ℕ)) LineFault → Result Demand LineFault
demand_of memory disk tag = do
  (size, tag) ← memory & disk & tag
  Ok (record { memory = size.0; disk = size.1; tag = tag })

-- amounts of memory, disk and containers
unfoldable pub amounts_as : Data → Result Amounts LineFault
amounts_as d = do
  (size, containers) ← number_in (codes "MemoryMB") d & number_in (codes "DiskMB") d & number_in (codes "Containers") d
  Ok (record { memory = size.0; disk = size.1; containers = containers })

-- the amounts of a member
unfoldable pub amounts_in : List ℕ → Data → Result Amounts LineFault
amounts_in m d = needed amounts_as (said m d)

-- an instance on a cell, by its parts
unfoldable pub instance_of : Result (List ℕ) LineFault → Result ℕ LineFault → Result ℕ LineFault → Result ℕ LineFault → Result (Option (List ℕ)) LineFault → Result Bool LineFault → Result Bool LineFault → Result InstanceOnCell LineFault
instance_of process index memory disk tag ended volumes = do
  (asks, volumes) ← process & index & memory & disk & tag & ended & volumes
  Ok (record {
    process = asks.0.0.0.0.0;
    index = asks.0.0.0.0.1;
    memory = asks.0.0.0.1;
    disk = asks.0.0.1;
    tag = asks.0.1;
    ended = asks.1;
    has_volume_drivers = volumes;
  })

-- an instance on a cell
unfoldable pub instance_as : Data → Result InstanceOnCell LineFault
instance_as d =
    instance_of (name_in (codes "process_guid") d) (number_in (codes "index") d) (number_in (codes "MemoryMB") d)
    (number_in (codes "DiskMB") d)
    (tag_in (codes "PlacementTags") d)
    (is_word_or false (codes "COMPLETED") (codes "state") d)
    (is_filled_in (codes "VolumeDrivers") d)

-- the name of a task on a cell, whose member has two spellings
unfoldable pub task_name_in : Data → Result (List ℕ) LineFault
task_name_in d = if has (codes "TaskGuid") d then name_in (codes "TaskGuid") d else name_in (codes "task_guid") d

-- a task on a cell
unfoldable pub task_as : Data → Result TaskOnCell LineFault
task_as d = do
  (task, size) ← task_name_in d & (number_in (codes "MemoryMB") d & number_in (codes "DiskMB") d)
  Ok (record { task = task; memory = size.0; disk = size.1 })

-- no more is free than there is in all, and no more containers stand than may
abbrev pub has_sound_amounts : CellState → Bool
has_sound_amounts state =
    nat_le state.free.memory state.totals.memory && (nat_le state.free.disk state.totals.disk
    && (nat_le state.free.containers state.totals.containers
    && nat_le (length state.instances + length state.tasks) state.totals.containers))

-- a state whose amounts are sound
abbrev pub as_sound : CellState → Result CellState LineFault
as_sound state = if has_sound_amounts state then Ok state else Err BadAmounts

-- what a cell tells of itself beside what stands on it, by its parts
unfoldable pub cell_head_of : Result Place LineFault → Result Amounts LineFault → Result Amounts LineFault → Result (Option (List ℕ)) LineFault → Result Bool LineFault → Result Bool LineFault → Result ℕ LineFault → Result CellHead LineFault
cell_head_of place totals free tag optional evacuating proxy = do
  (told, proxy) ← place & totals & free & tag & optional & evacuating & proxy
  Ok (record {
    place = told.0.0.0.0.0;
    totals = told.0.0.0.0.1;
    free = told.0.0.0.1;
    tag = told.0.0.1;
    has_optional_tags = told.0.1;
    evacuating = told.1;
    proxy_memory = proxy;
  })

-- what a cell tells of itself beside what stands on it
unfoldable pub cell_head_in : Data → Result CellHead LineFault
cell_head_in d =
    cell_head_of (place_in (codes "Zone") d) (amounts_in (codes "TotalResources") d)
    (amounts_in (codes "AvailableResources") d)
    (tag_in (codes "PlacementTags") d)
    (is_filled_in (codes "OptionalPlacementTags") d)
    (truth_in (codes "Evacuating") d)
    (number_or 0 (codes "ProxyMemoryAllocationMB") d)

-- a cell with what stands on it
abbrev pub whole : CellHead → List InstanceOnCell → List TaskOnCell → CellState
whole head instances tasks = record {
  place = head.place;
  totals = head.totals;
  free = head.free;
  tag = head.tag;
  has_optional_tags = head.has_optional_tags;
  evacuating = head.evacuating;
  proxy_memory = head.proxy_memory;
  instances = instances;
  tasks = tasks;
}

-- the state of a cell, by its parts
unfoldable pub state_with : Result CellHead LineFault → Result (List InstanceOnCell) LineFault → Result (List TaskOnCell) LineFault → Result CellState LineFault
state_with head instances tasks = head & instances & tasks >>= λ (stands, tasks). as_sound (whole stands.0 stands.1 tasks)

-- what a line of `cfdot cell-states` tells
unfoldable pub cell_state_in : Data → Result CellState LineFault
cell_state_in d =
    state_with (cell_head_in d) (all_in instance_as (codes "LRPs") d) (all_in task_as (codes "Tasks") d)
