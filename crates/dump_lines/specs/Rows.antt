-- The lines of tasks, processes and instances.
use Rattle.std.specs.Prelude.{ℕ, List, codes, Bool, true, false, ◌==◌, length, Option, Some, None, option_and_then, Result, Ok, Err, if◌then◌else◌}
use Rattle.std.specs.Str.{str_eq_ignore_ascii_case}
use Rattle.serde_json.specs.Data.{Data, null, boolean, number, string, array, object}
use Rattle.dump_lines.specs.Cells.{demand_of}
use Rattle.dump_lines.specs.Faults.{◌>>=◌, ◌&◌, or_shape}
use Rattle.dump_lines.specs.Members.{has, is_filled_in, is_word_in, is_word_or, name_in, number_in, number_or, optional, said, text_in}
use Rattle.dump_lines.specs.Tags.{first_tag_in}
use Rattle.dump_lines.specs.Values.{name_said}
use Rattle.dump_lines.specs.declared.demand.Demand.{Demand}
use Rattle.dump_lines.specs.declared.fault.LineFault.{LineFault}
use Rattle.dump_lines.specs.declared.fault.LineFault.TheVariants.{BadShape}
use Rattle.dump_lines.specs.declared.rows.ActualRow.{ActualRow}
use Rattle.dump_lines.specs.declared.rows.DesiredRow.{DesiredRow}
use Rattle.dump_lines.specs.declared.rows.RowState.{RowState}
use Rattle.dump_lines.specs.declared.rows.RowState.TheVariants.{Unclaimed, Claimed, Running, Crashed}
use Rattle.dump_lines.specs.declared.rows.TaskRow.{TaskRow}

-- what a task or an instance of a process asks for
unfoldable pub demand_in : Data → Result Demand LineFault
demand_in d = demand_of (number_or 0 (codes "memory_mb") d) (number_or 0 (codes "disk_mb") d) (first_tag_in d)

-- what a line of `cfdot tasks` tells
unfoldable pub task_in : Data → Result TaskRow LineFault
task_in d = do
  (task, demand) ← name_in (codes "task_guid") d & is_word_in (codes "PENDING") (codes "state") d & demand_in d
  Ok (record { task = task.0; waits = task.1; demand = demand })

-- whether a placement names volume drivers; null names none
unfoldable pub placement_as : Data → Result Bool LineFault
placement_as null = Ok false
placement_as (boolean b) = Err BadShape
placement_as (number n) = Err BadShape
placement_as (string s) = Err BadShape
placement_as (array ds) = Err BadShape
placement_as (object ms) = is_filled_in (codes "driver_names") (object ms)

-- whether the placement of a process names volume drivers
unfoldable pub placement_in : Data → Result Bool LineFault
placement_in d = optional false placement_as (said (codes "volume_placement") d)

-- a desired process, by its parts
unfoldable pub desired_of : Result (List ℕ) LineFault → Result ℕ LineFault → Result Demand LineFault → Result Bool LineFault → Result Bool LineFault → Result DesiredRow LineFault
desired_of process instances demand drivers mounts = do
  (asks, mounts) ← process & instances & demand & drivers & mounts
  Ok (record {
    process = asks.0.0.0;
    instances = asks.0.0.1;
    demand = asks.0.1;
    has_volume_drivers = asks.1;
    has_volume_mounts = mounts;
  })

-- what a line of a desired process tells
unfoldable pub desired_in : Data → Result DesiredRow LineFault
desired_in d =
    desired_of (name_in (codes "process_guid") d) (number_in (codes "instances") d) (demand_in d) (placement_in d)
    (is_filled_in (codes "volume_mounts") d)

-- the state of an instance, by its word in whatever letter case
abbrev pub row_state_named : List ℕ → Option RowState
row_state_named text =
    if str_eq_ignore_ascii_case text (codes "UNCLAIMED") then Some Unclaimed
    else (if str_eq_ignore_ascii_case text (codes "CLAIMED") then Some Claimed
    else (if str_eq_ignore_ascii_case text (codes "RUNNING") then Some Running
    else (if str_eq_ignore_ascii_case text (codes "CRASHED") then Some Crashed
    else None)))

-- the state of a row
unfoldable pub row_state_in : Data → Result RowState LineFault
row_state_in d = or_shape (option_and_then row_state_named (text_in (codes "state") d))

-- the cell that a text names; an empty one names none
unfoldable pub cell_as : List ℕ → Result (Option (List ℕ)) LineFault
cell_as text = if length text == 0 then Ok None else (name_said text >>= λ cell. Ok (Some cell))

-- the cell of a row
unfoldable pub cell_in : Data → Result (Option (List ℕ)) LineFault
cell_in d = if has (codes "cell_id") d then (or_shape (text_in (codes "cell_id") d) >>= cell_as) else Ok None

-- a row, by its parts
unfoldable pub actual_of : Result (List ℕ) LineFault → Result ℕ LineFault → Result RowState LineFault → Result Bool LineFault → Result (Option (List ℕ)) LineFault → Result ActualRow LineFault
actual_of process index state ordinary cell = do
  (row, cell) ← process & index & state & ordinary & cell
  Ok (record {
    instance = record { process = row.0.0.0; index = row.0.0.1 };
    state = row.0.1;
    ordinary = row.1;
    cell = cell;
  })

-- what a line of `cfdot actual-lrps` tells
unfoldable pub actual_in : Data → Result ActualRow LineFault
actual_in d =
    actual_of (name_in (codes "process_guid") d) (number_in (codes "index") d) (row_state_in d)
    (is_word_or true (codes "ORDINARY") (codes "presence") d)
    (cell_in d)
