-- What an index holds: the rows of a board, and how many more fit without memory.
use Rattle.std.specs.Prelude.{ℕ, min, nat_eq, Bool, false, List, Option, Some, None, if◌then◌else◌}
use Rattle.std.specs.Cmp.Lexicographic.{pointwise}
use Rattle.std.specs.List.{sum_by, filter_map}
use Rattle.std.specs.Option.{option_map_or}
use Rattle.diego_names.specs.Order.{name_order}
use Rattle.diego_names.specs.declared.key.Key.{Key}
use Rattle.lrp_records.specs.Place.{place_of, place_order}
use Rattle.lrp_records.specs.States.{cell_of}
use Rattle.lrp_records.specs.declared.actual.Actual.{Actual}
use Rattle.lrp_records.specs.declared.desired.Desired.{Desired}
use Rattle.lrp_records.specs.declared.presence.Presence.{Presence}
use Rattle.row_tables.specs.Table.{IsRising}
use Rattle.bbs_model.specs.Tables.{process_of, task_name_of, cell_name_of, domain_name_of}
use Rattle.bbs_model.specs.declared.rows.Rows.{Rows}

-- the rows of a board, and how many rows with new keys fit into any of its tables without memory
pub record Indexed : Type 0 where
  pub rows : Rows
  pub spare : ℕ

-- what fits into each of five shelves, whichever of them it goes to
abbrev pub least_room : ℕ → ℕ → ℕ → ℕ → ℕ → ℕ
least_room desired actual tasks cells domains = min (min (min desired actual) (min tasks cells)) domains

-- the instances that the rows want together
abbrev pub instances_in : List Desired → ℕ
instances_in rows = sum_by (λ (d : Desired). d.instances) rows

-- the instances that a row wants, if there is one
abbrev pub instances_of : Option Desired → ℕ
instances_of row = option_map_or (λ (d : Desired). d.instances) row 0

-- a container on that cell has the row
abbrev pub is_on : List ℕ → Actual → Bool
is_on cell row = option_map_or (pointwise nat_eq cell) (cell_of row.state) false

-- the place of a row that a container on that cell has
abbrev pub place_on : List ℕ → Actual → Option (Key × Presence)
place_on cell row = if is_on cell row then Some (place_of row) else None

-- the places of the rows that the cell's containers have, in the order of the rows
abbrev pub places_on : Rows → List ℕ → List (Key × Presence)
places_on rows cell = filter_map (place_on cell) rows.actual

-- the keys of each table rise
pub record AreRising (rows : Rows) : Type 0 where
  pub desired : IsRising name_order process_of rows.desired
  pub actual : IsRising place_order place_of rows.actual
  pub tasks : IsRising name_order task_name_of rows.tasks
  pub cells : IsRising name_order cell_name_of rows.cells
  pub domains : IsRising name_order domain_name_of rows.domains
