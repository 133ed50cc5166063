-- Which instances are reached by a route, and where.
use Rattle.std.specs.Prelude.{ℕ, Bool, true, false, List, Option, Some, None, is_some}
use Rattle.std.specs.List.{filter_map}
use Rattle.diego_names.specs.Order.{name_order}
use Rattle.diego_names.specs.declared.instance.Instance.{Instance}
use Rattle.diego_names.specs.declared.key.Key.{Key}
use Rattle.lrp_records.specs.declared.actual.Actual.{Actual}
use Rattle.lrp_records.specs.declared.desired.Desired.{Desired}
use Rattle.lrp_records.specs.declared.state.LrpState.{LrpState}
use Rattle.lrp_records.specs.declared.state.LrpState.TheVariants as lrp
use Rattle.row_tables.specs.Table.{find_row, table}
use Rattle.bbs_model.specs.Tables.{process_of}
use Rattle.bbs_model.specs.declared.rows.Rows.{Rows}
use Rattle.route_emitter.specs.Entries.{itself, route_order}
use Rattle.route_emitter.specs.declared.entry.RouteEntry.{RouteEntry}

-- clients reach the process by a route
abbrev pub has_route : Desired → Bool
has_route row = is_some row.route

-- the state is RUNNING
abbrev pub runs : LrpState → Bool
runs lrp.Unclaimed = false
runs (lrp.Claimed instance cell) = false
runs (lrp.Running instance cell) = true
runs lrp.Crashed = false

-- the row is RUNNING, whatever its presence
abbrev pub is_running : Actual → Bool
is_running row = runs row.state

-- the way to a container by the route of its process, if there is one
abbrev pub way_to : Option (List ℕ) → ℕ → Key → Instance → List ℕ → Option RouteEntry
way_to None port key instance cell = None
way_to (Some route) port key instance cell =
    Some (record { route = route; process = key.process; index = key.index; instance = instance; cell = cell; port = port })

-- the way to an instance in this state: only one that is RUNNING is reached
abbrev pub way_in : LrpState → Key → Desired → Option RouteEntry
way_in lrp.Unclaimed key desired = None
way_in (lrp.Claimed instance cell) key desired = None
way_in (lrp.Running instance cell) key desired = way_to desired.route desired.port key instance cell
way_in lrp.Crashed key desired = None

-- the entry of an actual row whose process is desired so: a row of any presence has one if it is RUNNING
abbrev pub entry_for : Option Desired → Actual → Option RouteEntry
entry_for None row = None
entry_for (Some desired) row = way_in row.state row.key desired

-- the entry of an actual row among these desired ones
abbrev pub entry_among : List Desired → Actual → Option RouteEntry
entry_among desired row = entry_for (find_row name_order process_of row.key.process desired) row

-- the entries of all actual rows, in their order and each once
abbrev pub routes_in : List Desired → List Actual → List RouteEntry
routes_in desired actual = table route_order itself (filter_map (entry_among desired) actual)

-- the routes of a board, whether or not an instance that runs is still wanted
abbrev pub routes : Rows → List RouteEntry
routes rows = routes_in rows.desired rows.actual
