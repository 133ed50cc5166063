-- The tables of a board: what is found at a key, and the table after a put or a removal.
use Rattle.std.specs.Prelude.{ℕ, List, [], length, sum_by, Option}
use Rattle.cell_records.specs.declared.cell_row.CellRow.{CellRow}
use Rattle.diego_names.specs.Order.{name_order}
use Rattle.diego_names.specs.declared.key.Key.{Key}
use Rattle.lrp_records.specs.Place.{place_of, place_order}
use Rattle.lrp_records.specs.declared.actual.Actual.{Actual}
use Rattle.lrp_records.specs.declared.desired.Desired.{Desired}
use Rattle.lrp_records.specs.declared.presence.Presence.{Presence}
use Rattle.row_tables.specs.Table.{find_row, put_row, without_row}
use Rattle.task_records.specs.declared.task.Task.{Task}
use Rattle.bbs_model.specs.declared.counts.Counts.{Counts}
use Rattle.bbs_model.specs.declared.domain_row.DomainRow.{DomainRow}
use Rattle.bbs_model.specs.declared.rows.Rows.{Rows}

-- what desired rows are ordered by
abbrev pub process_of : Desired → List ℕ
process_of row = row.process

-- what tasks are ordered by
abbrev pub task_name_of : Task → List ℕ
task_name_of row = row.name

-- what cells are ordered by
abbrev pub cell_name_of : CellRow → List ℕ
cell_name_of row = row.cell

-- what domains are ordered by
abbrev pub domain_name_of : DomainRow → List ℕ
domain_name_of row = row.domain

-- the row of a process, where it is desired
abbrev pub find_desired : Rows → List ℕ → Option Desired
find_desired rows process = find_row name_order process_of process rows.desired

-- the row of an instance with this presence
abbrev pub find_actual : Rows → Key → Presence → Option Actual
find_actual rows key presence = find_row place_order place_of (key, presence) rows.actual

-- the row of a task
abbrev pub find_task : Rows → List ℕ → Option Task
find_task rows name = find_row name_order task_name_of name rows.tasks

-- the row of a cell that has joined
abbrev pub find_cell : Rows → List ℕ → Option CellRow
find_cell rows cell = find_row name_order cell_name_of cell rows.cells

-- the row of a domain
abbrev pub find_domain : Rows → List ℕ → Option DomainRow
find_domain rows domain = find_row name_order domain_name_of domain rows.domains

-- the board with this row in the place of its process
abbrev pub put_desired : Rows → Desired → Rows
put_desired rows row = record rows { desired = put_row name_order process_of row rows.desired }

-- the board with this row in its place
abbrev pub put_actual : Rows → Actual → Rows
put_actual rows row = record rows { actual = put_row place_order place_of row rows.actual }

-- the board with this row in the place of its task
abbrev pub put_task : Rows → Task → Rows
put_task rows row = record rows { tasks = put_row name_order task_name_of row rows.tasks }

-- the board with this row in the place of its cell
abbrev pub put_cell : Rows → CellRow → Rows
put_cell rows row = record rows { cells = put_row name_order cell_name_of row rows.cells }

-- the board with this row in the place of its domain
abbrev pub put_domain : Rows → DomainRow → Rows
put_domain rows row = record rows { domains = put_row name_order domain_name_of row rows.domains }

-- the board without a row of the process
abbrev pub without_desired : Rows → List ℕ → Rows
without_desired rows process = record rows { desired = without_row name_order process_of process rows.desired }

-- the board without a row of the instance with this presence
abbrev pub without_actual : Rows → Key → Presence → Rows
without_actual rows key presence =
    record rows { actual = without_row place_order place_of (key, presence) rows.actual }

-- the board without a row of the task
abbrev pub without_task : Rows → List ℕ → Rows
without_task rows name = record rows { tasks = without_row name_order task_name_of name rows.tasks }

-- the board without a row of the cell
abbrev pub without_cell : Rows → List ℕ → Rows
without_cell rows cell = record rows { cells = without_row name_order cell_name_of cell rows.cells }

-- the board without a row of the domain
abbrev pub without_domain : Rows → List ℕ → Rows
without_domain rows domain = record rows { domains = without_row name_order domain_name_of domain rows.domains }

-- the instances that all processes want together
abbrev pub wanted : Rows → ℕ
wanted rows = sum_by (λ (d : Desired). d.instances) rows.desired

-- how many rows there are
abbrev pub counts_of : Rows → Counts
counts_of rows = record {
  desired = length rows.desired;
  wanted = wanted rows;
  actual = length rows.actual;
  tasks = length rows.tasks;
  cells = length rows.cells;
  domains = length rows.domains;
}

-- a board of no rows and no transitions
abbrev pub no_rows : Rows
no_rows = record { desired = []; actual = []; tasks = []; cells = []; domains = []; next = 0 }
