-- The order of events is that of the rows of a board, table by table.
use Rattle.std.specs.Prelude.{◌≡◌, ◌<◌}
use Rattle.std.specs.declared.cmp.Ordering.{Ordering}
use Rattle.std.specs.declared.cmp.Ordering.TheVariants.{Less}
use Rattle.bbs_model.specs.Tables.{process_of, task_name_of, cell_name_of, domain_name_of}
use Rattle.bbs_model.specs.declared.domain_row.DomainRow.{DomainRow as ADomain}
use Rattle.bbs_model.specs.declared.event.Row.{Row}
use Rattle.bbs_model.specs.declared.event.Row.TheVariants.{Desired, Actual, Task, Cell, Domain}
use Rattle.cell_records.specs.declared.cell_row.CellRow.{CellRow as ACell}
use Rattle.diego_names.specs.Order.{name_order}
use Rattle.lrp_records.specs.Place.{place_of, place_order}
use Rattle.lrp_records.specs.declared.actual.Actual.{Actual as AnActual}
use Rattle.lrp_records.specs.declared.desired.Desired.{Desired as ADesired}
use Rattle.task_records.specs.declared.task.Task.{Task as ATask}
use Rattle.phase_text.specs.Sorting.{spot_of, event_order}

-- how two rows stand to one another
abbrev pub row_order : Row → Row → Ordering
row_order a b = event_order (spot_of a) (spot_of b)

-- rows of one table stand by what the table's rows are ordered by, and a desired row comes first, then an actual one,
-- then a task, then a cell, then a domain
pub record StandsInOrder : Type 0 where
  pub desired : (a b : ADesired) → row_order (Desired a) (Desired b) ≡ name_order (process_of a) (process_of b)
  pub actual : (a b : AnActual) → row_order (Actual a) (Actual b) ≡ place_order (place_of a) (place_of b)
  pub tasks : (a b : ATask) → row_order (Task a) (Task b) ≡ name_order (task_name_of a) (task_name_of b)
  pub cells : (a b : ACell) → row_order (Cell a) (Cell b) ≡ name_order (cell_name_of a) (cell_name_of b)
  pub domains : (a b : ADomain) → row_order (Domain a) (Domain b) ≡ name_order (domain_name_of a) (domain_name_of b)
  pub tables : (a b : Row) → (spot_of a).table < (spot_of b).table → row_order a b ≡ Less
