-- What is kept of a board's rows, and what events make of it.
use Rattle.std.specs.Prelude.{ℕ, ◌&&◌, Bool, true, false, List, [], ◌∷◌, if◌then◌else◌}
use Rattle.diego_names.specs.Order.{name_order}
use Rattle.lrp_records.specs.Place.{place_of, place_order}
use Rattle.lrp_records.specs.declared.actual.Actual.{Actual}
use Rattle.lrp_records.specs.declared.desired.Desired.{Desired}
use Rattle.row_tables.specs.Table.{put_row, without_row}
use Rattle.bbs_model.specs.Tables.{process_of}
use Rattle.bbs_model.specs.declared.event.Change.{Change}
use Rattle.bbs_model.specs.declared.event.Change.TheVariants.{Created, Changed, Removed}
use Rattle.bbs_model.specs.declared.event.Event.{Event}
use Rattle.bbs_model.specs.declared.event.Row.{Row}
use Rattle.bbs_model.specs.declared.event.Row.TheVariants as row
use Rattle.route_emitter.specs.Routes.{has_route, is_running}

-- the kept rows, and how many more of either table fit without memory
pub record Keeping : Type 0 where
  pub desired : List Desired
  pub running : List Actual
  pub spare : ℕ

-- the row is there after the change
abbrev pub stands : Change → Bool
stands Created = true
stands Changed = true
stands Removed = false

-- the kept desired rows after a change of one
abbrev pub with_desired : Change → Desired → List Desired → List Desired
with_desired change d kept =
    if stands change && has_route d then put_row name_order process_of d kept else without_row name_order process_of d.process kept

-- the kept actual rows after a change of one
abbrev pub with_running : Change → Actual → List Actual → List Actual
with_running change a kept =
    if stands change && is_running a then put_row place_order place_of a kept else without_row place_order place_of (place_of a) kept

-- the kept desired rows after a change of a row of any table
abbrev pub desired_by : Change → Row → List Desired → List Desired
desired_by kind (row.Desired d) kept = with_desired kind d kept
desired_by kind (row.Actual a) kept = kept
desired_by kind (row.Task t) kept = kept
desired_by kind (row.Cell c) kept = kept
desired_by kind (row.Domain d) kept = kept

-- the kept actual rows after a change of a row of any table
abbrev pub running_by : Change → Row → List Actual → List Actual
running_by kind (row.Desired d) kept = kept
running_by kind (row.Actual a) kept = with_running kind a kept
running_by kind (row.Task t) kept = kept
running_by kind (row.Cell c) kept = kept
running_by kind (row.Domain d) kept = kept

-- the kept desired rows after events
abbrev pub desired_after : List Event → List Desired → List Desired
desired_after [] kept = kept
desired_after (e ∷ es) kept = desired_after es (desired_by e.change e.row kept)

-- the kept actual rows after events
abbrev pub running_after : List Event → List Actual → List Actual
running_after [] kept = kept
running_after (e ∷ es) kept = running_after es (running_by e.change e.row kept)
