-- What the named instances have before and after events tells how the table changes.
use Rattle.std.proofs.Common.{◌≡◌, ◌+◌, ◌≤◌, not, ◌&&◌, List, ◌++◌, length, sym, ap, subst, ◌∙◌, arith}
use Rattle.std.proofs.lemmas.List.Sums.{count_by-le-length, length-filter}
use Rattle.diego_names.specs.declared.key.Key.{Key}
use Rattle.lrp_records.specs.Place.{place_of, place_order}
use Rattle.lrp_records.specs.declared.actual.Actual.{Actual}
use Rattle.lrp_records.specs.declared.desired.Desired.{Desired}
use Rattle.row_tables.specs.Table.{IsRising, table}
use Rattle.row_tables.proofs.Public.{IsRising-table}
use Rattle.bbs_model.specs.declared.event.Event.{Event}
use Rattle.std.specs.List.{flat_map}
use Rattle.route_emitter.specs.Entries.{has, itself, minus, route_order}
use Rattle.route_emitter.specs.Keeping.{desired_after, running_after}
use Rattle.route_emitter.specs.Near.{IsSwitched, KeepsOthers, entries_at, entries_of, is_among, key_of}
use Rattle.route_emitter.specs.Routes.{routes_in}
use Rattle.route_emitter.specs.declared.entry.RouteEntry.{RouteEntry}
use Rattle.route_emitter.proofs.Changes.{comes_is, goes_is, table_is}
use Rattle.route_emitter.proofs.Following.{routes-rise}
use Rattle.route_emitter.proofs.Near.{rising-after}
use Rattle.route_emitter.proofs.Order.{IsKeyOrder-route_order}
use Rattle.route_emitter.proofs.Reached.{has-entries_of}

pub entries-rise : (ds : List Desired) (rs : List Actual) (keys : List Key)
    → IsRising route_order itself (entries_of ds rs keys)
entries-rise ds rs keys = IsRising-table route_order itself IsKeyOrder-route_order (flat_map (entries_at ds rs) keys)

pub minus-no_more : (xs ys : List RouteEntry) → length (minus xs ys) ≤ length xs
minus-no_more xs ys =
    let p = λ (x : RouteEntry). not (has ys x) in
    omega (arith, length-filter p xs, count_by-le-length p xs)

module _ (named : List Key) (es : List Event) (ds : List Desired) (rs : List Actual) (old : List RouteEntry)
    (was : old ≡ routes_in ds rs)
    (rising : IsRising place_order place_of rs) (others : KeepsOthers named old
    (routes_in (desired_after es ds) (running_after es rs))) where
  of_old : (e : RouteEntry) → has (entries_of ds rs named) e ≡ (is_among named (key_of e) && has old e)
  of_old e = has-entries_of ds rs rising named e ∙ ap (λ xs. is_among named (key_of e) && has xs e) (sym was)

  of_new : (e : RouteEntry) → has (entries_of (desired_after es ds) (running_after es rs) named) e
      ≡ (is_among named (key_of e) && has (routes_in (desired_after es ds) (running_after es rs)) e)
  of_new e = has-entries_of (desired_after es ds) (running_after es rs) (rising-after es rs rising) named e

  pub old-rises : IsRising route_order itself old
  old-rises = subst (λ xs. IsRising route_order itself xs) (sym was) (routes-rise ds rs)

  pub comes : minus (entries_of (desired_after es ds) (running_after es rs) named) (entries_of ds rs named)
      ≡ minus (routes_in (desired_after es ds) (running_after es rs)) old
  comes =
      comes_is named old (routes_in (desired_after es ds) (running_after es rs)) (entries_of ds rs named)
      (entries_of (desired_after es ds) (running_after es rs) named)
      old-rises (routes-rise (desired_after es ds) (running_after es rs)) (entries-rise ds rs named)
      (entries-rise (desired_after es ds) (running_after es rs) named) of_old of_new others

  pub goes : minus (entries_of ds rs named) (entries_of (desired_after es ds) (running_after es rs) named)
      ≡ minus old (routes_in (desired_after es ds) (running_after es rs))
  goes =
      goes_is named old (routes_in (desired_after es ds) (running_after es rs)) (entries_of ds rs named)
      (entries_of (desired_after es ds) (running_after es rs) named)
      old-rises (routes-rise (desired_after es ds) (running_after es rs)) (entries-rise ds rs named)
      (entries-rise (desired_after es ds) (running_after es rs) named) of_old of_new others

  pub renewed : (changed : List RouteEntry)
      → IsSwitched (minus (entries_of (desired_after es ds) (running_after es rs) named) (entries_of ds rs named))
      (minus (entries_of ds rs named) (entries_of (desired_after es ds) (running_after es rs) named)) old changed
      → changed ≡ routes_in (desired_after es ds) (running_after es rs)
  renewed changed switched =
      table_is named old (routes_in (desired_after es ds) (running_after es rs)) (entries_of ds rs named)
      (entries_of (desired_after es ds) (running_after es rs) named)
      old-rises (routes-rise (desired_after es ds) (running_after es rs)) (entries-rise ds rs named)
      (entries-rise (desired_after es ds) (running_after es rs) named) of_old of_new others
      changed switched
