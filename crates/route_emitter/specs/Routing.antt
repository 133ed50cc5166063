-- What an emitter keeps, and of which rows.
use Rattle.std.specs.Prelude.{◌≡◌, ℕ, ◌-◌, ◌≤◌, List, filter}
use Rattle.diego_names.specs.Order.{name_order}
use Rattle.lrp_records.specs.Place.{place_of, place_order}
use Rattle.lrp_records.specs.declared.actual.Actual.{Actual}
use Rattle.lrp_records.specs.declared.desired.Desired.{Desired}
use Rattle.row_tables.specs.Table.{IsRising}
use Rattle.bbs_model.specs.Replay.{IsLawful, rows_at}
use Rattle.bbs_model.specs.Tables.{process_of}
use Rattle.bbs_model.specs.Told.{heard_from}
use Rattle.bbs_model.specs.declared.item.Item.{Item}
use Rattle.bbs_model.specs.declared.rows.Rows.{Rows}
use Rattle.event_laws.specs.Told.{with_events}
use Rattle.route_emitter.specs.Routes.{has_route, is_running, routes}
use Rattle.route_emitter.specs.declared.entry.RouteEntry.{RouteEntry}

-- what an emitter keeps: the desired rows with a route, the RUNNING rows, and the table
pub record Routing : Type 0 where
  pub desired : List Desired
  pub running : List Actual
  pub table : List RouteEntry

-- the emitter keeps what it has to of these rows, whose keys rise, and its table is their routes
pub record IsRoutingOf (rows : Rows) (emitter : Routing) : Type 0 where
  pub processes : IsRising name_order process_of rows.desired
  pub places : IsRising place_order place_of rows.actual
  pub desired : emitter.desired ≡ filter has_route rows.desired
  pub running : emitter.running ≡ filter is_running rows.actual
  pub table : emitter.table ≡ routes rows

-- an emitter of a board's rows at one place of its log, with the events from there to another place taken in, is
-- one of its rows at that place
abbrev pub FollowsTheLog : Rows → List Item → ℕ → ℕ → Type 0
FollowsTheLog base log from upto =
    IsLawful base log → from ≤ upto → (emitter : Routing)
    → IsRoutingOf (with_events (heard_from base log from (upto - from)) (rows_at base log from)) emitter
    → IsRoutingOf (rows_at base log upto) emitter
