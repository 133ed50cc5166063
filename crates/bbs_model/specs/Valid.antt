-- What the rows of a board keep.
use Rattle.std.specs.Prelude.{◌≡◌, ℕ, ◌≤◌, ◌<◌, false, List, length, map, nat_eq, Option, Some, None, sum_by}
use Rattle.std.specs.List.{AllByRecursion, IsDistinct}
use Rattle.cell_records.specs.declared.cell_row.CellRow.{CellRow}
use Rattle.diego_names.specs.Order.{name_order}
use Rattle.diego_names.specs.declared.instance.Instance.{Instance}
use Rattle.lrp_records.specs.Place.{place_of, place_order}
use Rattle.lrp_records.specs.States.{holder_of}
use Rattle.lrp_records.specs.declared.actual.Actual.{Actual}
use Rattle.lrp_records.specs.declared.desired.Desired.{Desired}
use Rattle.lrp_records.specs.declared.presence.Presence.{Presence}
use Rattle.lrp_records.specs.declared.presence.Presence.TheVariants.{Ordinary, Evacuating, Suspect}
use Rattle.lrp_records.specs.declared.state.LrpState.{LrpState}
use Rattle.lrp_records.specs.declared.state.LrpState.TheVariants as lrp
use Rattle.row_tables.specs.Table.{IsRising}
use Rattle.task_records.specs.States.{runner_of}
use Rattle.task_records.specs.declared.task.Task.{Task}
use Rattle.bbs_model.specs.Limits.{most_processes, most_instances, most_wanted, most_actual, most_tasks, most_cells, most_domains, most_transitions}
use Rattle.bbs_model.specs.Tables.{process_of, task_name_of, cell_name_of, domain_name_of}
use Rattle.bbs_model.specs.declared.domain_row.DomainRow.{DomainRow}
use Rattle.bbs_model.specs.declared.rows.Rows.{Rows}

-- the process has no more instances than one may have
abbrev pub HasFewInstances : Desired → Type 0
HasFewInstances row = row.instances ≤ most_instances

-- the desired rows of a board
pub record AreDesired (rows : List Desired) : Type 0 where
  pub rising : IsRising name_order process_of rows
  pub few : length rows ≤ most_processes
  pub each : AllByRecursion HasFewInstances rows
  pub wanted : sum_by (λ (d : Desired). d.instances) rows ≤ most_wanted

-- the container, if there is one, is of a cell that joined before this transition
abbrev pub IsHeldBefore : ℕ → Option Instance → Type 0
IsHeldBefore next None = Unit {0}
IsHeldBefore next (Some instance) = instance.epoch < next

-- the state is RUNNING
abbrev pub IsRunning : LrpState → Type 0
IsRunning lrp.Unclaimed = ⊥
IsRunning (lrp.Claimed instance cell) = ⊥
IsRunning (lrp.Running instance cell) = Unit {0}
IsRunning lrp.Crashed = ⊥

-- an EVACUATING or SUSPECT row is RUNNING, and has no error
abbrev pub SuitsPresence : Presence → Actual → Type 0
SuitsPresence Ordinary row = Unit {0}
SuitsPresence Evacuating row = IsRunning row.state × (row.error ≡ false)
SuitsPresence Suspect row = IsRunning row.state × (row.error ≡ false)

-- an actual row of a board with so many transitions
pub record IsActualRow (next : ℕ) (row : Actual) : Type 0 where
  pub held : IsHeldBefore next (holder_of row.state)
  pub suits : SuitsPresence row.presence row

-- the actual rows of a board
pub record AreActual (next : ℕ) (rows : List Actual) : Type 0 where
  pub rising : IsRising place_order place_of rows
  pub few : length rows ≤ most_actual
  pub each : AllByRecursion (IsActualRow next) rows

-- a task of a board with so many transitions
pub record IsTaskRow (next : ℕ) (row : Task) : Type 0 where
  pub born : row.birth < next
  pub held : IsHeldBefore next (runner_of row.state)

-- the tasks of a board, which differ in their births
pub record AreTasks (next : ℕ) (rows : List Task) : Type 0 where
  pub rising : IsRising name_order task_name_of rows
  pub few : length rows ≤ most_tasks
  pub each : AllByRecursion (IsTaskRow next) rows
  pub births : IsDistinct nat_eq (map (λ (t : Task). t.birth) rows)

-- a cell of a board with so many transitions
abbrev pub HasJoined : ℕ → CellRow → Type 0
HasJoined next row = row.epoch < next

-- the cells of a board, which differ in their epochs
pub record AreCells (next : ℕ) (rows : List CellRow) : Type 0 where
  pub rising : IsRising name_order cell_name_of rows
  pub few : length rows ≤ most_cells
  pub each : AllByRecursion (HasJoined next) rows
  pub epochs : IsDistinct nat_eq (map (λ (c : CellRow). c.epoch) rows)

-- the domains of a board
pub record AreDomains (rows : List DomainRow) : Type 0 where
  pub rising : IsRising name_order domain_name_of rows
  pub few : length rows ≤ most_domains

-- the rows are those of a board: the keys of each table rise, the limits hold, and epochs and births
-- are of its own past
pub record IsValid (rows : Rows) : Type 0 where
  pub desired : AreDesired rows.desired
  pub actual : AreActual rows.next rows.actual
  pub tasks : AreTasks rows.next rows.tasks
  pub cells : AreCells rows.next rows.cells
  pub domains : AreDomains rows.domains
  pub next : rows.next ≤ most_transitions
