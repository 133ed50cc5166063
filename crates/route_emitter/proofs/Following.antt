-- What is kept follows the rows event by event, and gives the routes of all rows.
use Rattle.std.proofs.Common.{◌≡◌, ℕ, true, false, cond, List, [], ◌∷◌, Option, Some, None, is_some, refl, sym, ap, ◌∙◌}
use Rattle.std.specs.Prelude.{filter}
use Rattle.std.specs.List.{filter_map}
use Rattle.std.specs.List.{cons_option}
use Rattle.diego_names.specs.Order.{name_order}
use Rattle.diego_names.specs.declared.key.Key.{Key}
use Rattle.diego_names.proofs.Public.{IsKeyOrder-name_order}
use Rattle.lrp_records.specs.Place.{place_of, place_order}
use Rattle.lrp_records.specs.declared.actual.Actual.{Actual}
use Rattle.lrp_records.specs.declared.desired.Desired.{Desired}
use Rattle.lrp_records.specs.declared.state.LrpState.{LrpState}
use Rattle.lrp_records.specs.declared.state.LrpState.TheVariants as lrp
use Rattle.lrp_records.proofs.Public.{IsKeyOrder-place_order}
use Rattle.row_tables.specs.Table.{find_row, IsRising, table}
use Rattle.row_tables.proofs.Public.{IsRising-put_row, IsRising-table, IsRising-without_row}
use Rattle.bbs_model.specs.Tables.{process_of}
use Rattle.bbs_model.specs.declared.event.Change.{Change}
use Rattle.bbs_model.specs.declared.event.Change.TheVariants.{Created, Changed, Removed}
use Rattle.bbs_model.specs.declared.event.Event.{Event}
use Rattle.bbs_model.specs.declared.event.Row.{Row}
use Rattle.bbs_model.specs.declared.event.Row.TheVariants as row
use Rattle.bbs_model.specs.declared.rows.Rows.{Rows}
use Rattle.event_laws.specs.Told.{with_change, with_event, with_events}
use Rattle.route_emitter.specs.Entries.{itself, route_order}
use Rattle.route_emitter.specs.Keeping.{desired_after, desired_by, running_after, running_by}
use Rattle.route_emitter.specs.Routes.{entry_among, entry_for, has_route, is_running, routes, routes_in, runs, way_in, way_to}
use Rattle.route_emitter.specs.Routing.{IsRoutingOf, Routing}
use Rattle.route_emitter.proofs.Filters.{filter-put_row, filter-without_row, find_row-filter, if_it_passes}
use Rattle.route_emitter.proofs.Order.{IsKeyOrder-route_order}

-- the keys still rise after a change
module _ (rows : Rows) (g : IsRising name_order process_of rows.desired) where
  pub processes-rise : (change : Change) (r : Row) → IsRising name_order process_of (with_change change r rows).desired
  processes-rise Created (row.Desired d) = IsRising-put_row name_order process_of IsKeyOrder-name_order d rows.desired g
  processes-rise Changed (row.Desired d) = IsRising-put_row name_order process_of IsKeyOrder-name_order d rows.desired g
  processes-rise Removed (row.Desired d) = IsRising-without_row name_order process_of d.process rows.desired g
  processes-rise Created (row.Actual a) = g
  processes-rise Changed (row.Actual a) = g
  processes-rise Removed (row.Actual a) = g
  processes-rise Created (row.Task t) = g
  processes-rise Changed (row.Task t) = g
  processes-rise Removed (row.Task t) = g
  processes-rise Created (row.Cell c) = g
  processes-rise Changed (row.Cell c) = g
  processes-rise Removed (row.Cell c) = g
  processes-rise Created (row.Domain d) = g
  processes-rise Changed (row.Domain d) = g
  processes-rise Removed (row.Domain d) = g

  desired-kept : (change : Change) (r : Row) → desired_by change r (filter has_route rows.desired)
      ≡ filter has_route (with_change change r rows).desired
  desired-kept Created (row.Desired d) = filter-put_row name_order process_of IsKeyOrder-name_order has_route d
      rows.desired g
  desired-kept Changed (row.Desired d) = filter-put_row name_order process_of IsKeyOrder-name_order has_route d
      rows.desired g
  desired-kept Removed (row.Desired d) = filter-without_row name_order process_of IsKeyOrder-name_order has_route
      d.process rows.desired g
  desired-kept Created (row.Actual a) = refl
  desired-kept Changed (row.Actual a) = refl
  desired-kept Removed (row.Actual a) = refl
  desired-kept Created (row.Task t) = refl
  desired-kept Changed (row.Task t) = refl
  desired-kept Removed (row.Task t) = refl
  desired-kept Created (row.Cell c) = refl
  desired-kept Changed (row.Cell c) = refl
  desired-kept Removed (row.Cell c) = refl
  desired-kept Created (row.Domain d) = refl
  desired-kept Changed (row.Domain d) = refl
  desired-kept Removed (row.Domain d) = refl

module _ (rows : Rows) (g : IsRising place_order place_of rows.actual) where
  places-rise : (change : Change) (r : Row) → IsRising place_order place_of (with_change change r rows).actual
  places-rise Created (row.Actual a) = IsRising-put_row place_order place_of IsKeyOrder-place_order a rows.actual g
  places-rise Changed (row.Actual a) = IsRising-put_row place_order place_of IsKeyOrder-place_order a rows.actual g
  places-rise Removed (row.Actual a) = IsRising-without_row place_order place_of (place_of a) rows.actual g
  places-rise Created (row.Desired d) = g
  places-rise Changed (row.Desired d) = g
  places-rise Removed (row.Desired d) = g
  places-rise Created (row.Task t) = g
  places-rise Changed (row.Task t) = g
  places-rise Removed (row.Task t) = g
  places-rise Created (row.Cell c) = g
  places-rise Changed (row.Cell c) = g
  places-rise Removed (row.Cell c) = g
  places-rise Created (row.Domain d) = g
  places-rise Changed (row.Domain d) = g
  places-rise Removed (row.Domain d) = g

  running-kept : (change : Change) (r : Row) → running_by change r (filter is_running rows.actual)
      ≡ filter is_running (with_change change r rows).actual
  running-kept Created (row.Actual a) = filter-put_row place_order place_of IsKeyOrder-place_order is_running a
      rows.actual g
  running-kept Changed (row.Actual a) = filter-put_row place_order place_of IsKeyOrder-place_order is_running a
      rows.actual g
  running-kept Removed (row.Actual a) = filter-without_row place_order place_of IsKeyOrder-place_order is_running
      (place_of a) rows.actual g
  running-kept Created (row.Desired d) = refl
  running-kept Changed (row.Desired d) = refl
  running-kept Removed (row.Desired d) = refl
  running-kept Created (row.Task t) = refl
  running-kept Changed (row.Task t) = refl
  running-kept Removed (row.Task t) = refl
  running-kept Created (row.Cell c) = refl
  running-kept Changed (row.Cell c) = refl
  running-kept Removed (row.Cell c) = refl
  running-kept Created (row.Domain d) = refl
  running-kept Changed (row.Domain d) = refl
  running-kept Removed (row.Domain d) = refl

-- rows whose keys rise, and what is kept of them
record IsKept (rows : Rows) (ds : List Desired) (rs : List Actual) : Type 0 where
  processes : IsRising name_order process_of rows.desired
  places : IsRising place_order place_of rows.actual
  desired : ds ≡ filter has_route rows.desired
  running : rs ≡ filter is_running rows.actual

kept-event : (e : Event) (rows : Rows) (desired : List Desired) (running : List Actual) → IsKept rows desired running
    → IsKept (with_event e rows) (desired_by e.change e.row desired) (running_by e.change e.row running)
kept-event e rows desired running h = record {
  processes = processes-rise rows h.processes e.change e.row;
  places = places-rise rows h.places e.change e.row;
  desired = ap (desired_by e.change e.row) h.desired ∙ desired-kept rows h.processes e.change e.row;
  running = ap (running_by e.change e.row) h.running ∙ running-kept rows h.places e.change e.row;
}

kept-events : (es : List Event) (rows : Rows) (desired : List Desired) (running : List Actual)
    → IsKept rows desired running
    → IsKept (with_events es rows) (desired_after es desired) (running_after es running)
kept-events [] rows desired running h = h
kept-events (e ∷ es) rows desired running h =
    kept-events es (with_event e rows) (desired_by e.change e.row desired) (running_by e.change e.row running)
    (kept-event e rows desired running h)

-- a process without a route has no entry, and a row that isn't RUNNING neither
unrouted : (s : LrpState) (key : Key) (d : Desired) → has_route d ≡ false → way_in s key d ≡ None
unrouted lrp.Unclaimed key d not_so = refl
unrouted (lrp.Claimed instance cell) key d not_so = refl
unrouted (lrp.Running instance cell) key d not_so =
    elim d.route as (λ (r : Option (List ℕ)). is_some r ≡ false → way_to r d.port key instance cell ≡ None) [
      | None ↦ λ e. refl
      | (Some r) ↦ λ e. cc
    ] not_so
unrouted lrp.Crashed key d not_so = refl

resting : (s : LrpState) (key : Key) (d : Desired) → runs s ≡ false → way_in s key d ≡ None
resting lrp.Unclaimed key d not_so = refl
resting (lrp.Claimed instance cell) key d not_so = refl
resting (lrp.Running instance cell) key d not_so = cc
resting lrp.Crashed key d not_so = refl

resting-entry : (o : Option Desired) (a : Actual) → is_running a ≡ false → entry_for o a ≡ None
resting-entry None a not_so = refl
resting-entry (Some d) a not_so = resting a.state a.key d not_so

routed-entry : (o : Option Desired) (a : Actual) → entry_for (if_it_passes has_route o) a ≡ entry_for o a
routed-entry None a = refl
routed-entry (Some d) a =
    elim (has_route d) as (λ b. has_route d ≡ b → entry_for (cond b (Some d) None) a ≡ way_in a.state a.key d) [
      | true ↦ λ is. refl
      | false ↦ λ is. sym (unrouted a.state a.key d is)
    ] refl

same-entry : (ds : List Desired) (a : Actual) → IsRising name_order process_of ds
    → entry_among (filter has_route ds) a ≡ entry_among ds a
same-entry ds a h =
    ap (λ o. entry_for o a) (find_row-filter name_order process_of IsKeyOrder-name_order has_route a.key.process ds h)
    ∙ routed-entry (find_row name_order process_of a.key.process ds) a

-- rows that aren't RUNNING add nothing
running-ways : (ds : List Desired) (as' : List Actual)
    → filter_map (entry_among ds) (filter is_running as') ≡ filter_map (entry_among ds) as'
running-ways ds [] = refl
running-ways ds (a ∷ as') =
    let rest = running-ways ds as' in
    let kept = filter is_running as' in
    elim (is_running a) as (λ b. is_running a ≡ b → filter_map (entry_among ds) (cond b (a ∷ kept) kept)
    ≡ filter_map (entry_among ds) (a ∷ as')) [
      | true ↦ λ is. ap (cons_option (entry_among ds a)) rest
      | false ↦ λ is. rest ∙ ap (λ o. cons_option o (filter_map (entry_among ds) as'))
          (sym (resting-entry (find_row name_order process_of a.key.process ds) a is))
    ] refl

pub routes-running : (ds : List Desired) (as' : List Actual) → routes_in ds (filter is_running as') ≡ routes_in ds as'
routes-running ds as' = ap (table route_order itself) (running-ways ds as')

-- nor do processes without a route
routed-ways : (ds : List Desired) (as' : List Actual) → IsRising name_order process_of ds
    → filter_map (entry_among (filter has_route ds)) as' ≡ filter_map (entry_among ds) as'
routed-ways ds [] h = refl
routed-ways ds (a ∷ as') h =
    let rest = routed-ways ds as' h in
    (λ i. cons_option (same-entry ds a h i) (rest i))

-- the routes of what is kept are those of the rows
pub routes-kept : (rows : Rows) → IsRising name_order process_of rows.desired
    → routes_in (filter has_route rows.desired) (filter is_running rows.actual) ≡ routes rows
routes-kept rows h = ap (table route_order itself) (running-ways
    (filter has_route rows.desired) rows.actual ∙ routed-ways rows.desired rows.actual h)

-- an emitter of rows that keeps what there is to keep
pub is-routing : (rows : Rows) (e : Routing) → IsRising name_order process_of rows.desired
    → IsRising place_order place_of rows.actual
    → e.desired ≡ filter has_route rows.desired → e.running ≡ filter is_running rows.actual
    → e.table ≡ routes_in e.desired e.running → IsRoutingOf rows e
is-routing rows e processes places desired running table' = record {
  processes = processes;
  places = places;
  desired = desired;
  running = running;
  table = table' ∙ (λ i. routes_in (desired i) (running i)) ∙ routes-kept rows processes;
}

-- and with the events taken in, it is one of the rows then
pub follows-events : (es : List Event) (rows : Rows) (old new : Routing) → new.desired ≡ desired_after es old.desired
    → new.running ≡ running_after es old.running
    → new.table ≡ routes_in new.desired new.running → IsRoutingOf rows old → IsRoutingOf (with_events es rows) new
follows-events es rows old new desired running table' h =
    let kept = kept-events es rows old.desired old.running
    (record { processes = h.processes; places = h.places; desired = h.desired; running = h.running }) in
    is-routing (with_events es rows) new kept.processes kept.places (desired ∙ kept.desired)
    (running ∙ kept.running) table'

-- the routes of any rows are sorted
pub routes-rise : (ds : List Desired) (rs : List Actual) → IsRising route_order itself (routes_in ds rs)
routes-rise ds rs = IsRising-table route_order itself IsKeyOrder-route_order (filter_map (entry_among ds) rs)
