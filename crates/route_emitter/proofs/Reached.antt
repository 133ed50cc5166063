-- The entries of an instance are those of its rows, whatever other instances have.
use Rattle.std.proofs.Common.{◌≡◌, ℕ, ◌⊎◌, inl, inr, Bool, true, false, ◌&&◌, List, [], ◌∷◌, ◌++◌, Option, Some, None, refl, sym, ap, subst, ◌∙◌}
use Rattle.std.specs.Cmp.{both_ways}
use Rattle.std.specs.List.{Contains, filter_map, flat_map}
use Rattle.std.specs.Option.{option_and_then, option_to_list}
use Rattle.std.proofs.lemmas.Bool.{and_from, and_parts}
use Rattle.std.proofs.lemmas.List.Elements.{Contains-append_cases, Contains-append_left, Contains-append_right}
use Rattle.diego_names.specs.Key.{key_order}
use Rattle.diego_names.specs.Order.{name_order}
use Rattle.diego_names.specs.declared.instance.Instance.{Instance}
use Rattle.diego_names.specs.declared.key.Key.{Key}
use Rattle.diego_names.proofs.Public.{IsKeyOrder-key_order}
use Rattle.lrp_records.specs.Place.{place_of, place_order}
use Rattle.lrp_records.specs.declared.actual.Actual.{Actual}
use Rattle.lrp_records.specs.declared.desired.Desired.{Desired}
use Rattle.lrp_records.specs.declared.presence.Presence.{Presence}
use Rattle.lrp_records.specs.declared.presence.Presence.TheVariants.{Ordinary, Evacuating, Suspect}
use Rattle.lrp_records.specs.declared.state.LrpState.{LrpState}
use Rattle.lrp_records.specs.declared.state.LrpState.TheVariants as lrp
use Rattle.lrp_records.proofs.Public.{IsKeyOrder-place_order}
use Rattle.row_tables.specs.Table.{find_row, IsRising}
use Rattle.row_tables.proofs.Public.{Contains-find_row, find_row-Contains, key-find_row}
use Rattle.bbs_model.specs.Tables.{process_of}
use Rattle.route_emitter.specs.Entries.{has, itself, route_order}
use Rattle.route_emitter.specs.Near.{entries_at, entries_of, entry_at, is_among, key_of}
use Rattle.route_emitter.specs.Routes.{entry_among, entry_for, routes_in, way_in, way_to}
use Rattle.route_emitter.specs.declared.entry.RouteEntry.{RouteEntry}
use Rattle.route_emitter.proofs.Elements.{Contains-filter_map, Contains-from_filter_map, Contains-flat_map, Contains-from_flat_map, Contains-found, found-Contains, Contains-option, Contains-from_option}
use Rattle.route_emitter.proofs.Lists.{Contains-has, has-Contains}
use Rattle.route_emitter.proofs.Members.{Contains-from_table, Contains-table}
use Rattle.route_emitter.proofs.Order.{IsKeyOrder-route_order}

-- an entry has the key of its row
key-way_to : (r : Option (List ℕ)) (d : Desired) (a : Actual) (instance : Instance) (cell : List ℕ) (e : RouteEntry)
    → way_to r d.port a.key instance cell ≡ Some e → key_of e ≡ a.key
key-way_to None d a instance cell e is = absurd cc
key-way_to (Some r) d a instance cell e is =
    let one : record {
      route = r;
      process = a.key.process;
      index = a.key.index;
      instance = instance;
      cell = cell;
      port =
          d.port;
    } ≡ e = cc in
    sym (ap key_of one)

key-way_in : (s : LrpState) (d : Desired) (a : Actual) (e : RouteEntry) → way_in s a.key d ≡ Some e → key_of e ≡ a.key
key-way_in lrp.Unclaimed d a e is = absurd cc
key-way_in (lrp.Claimed instance cell) d a e is = absurd cc
key-way_in (lrp.Running instance cell) d a e is = key-way_to d.route d a instance cell e is
key-way_in lrp.Crashed d a e is = absurd cc

key-entry_for : (o : Option Desired) (a : Actual) (e : RouteEntry) → entry_for o a ≡ Some e → key_of e ≡ a.key
key-entry_for None a e is = absurd cc
key-entry_for (Some d) a e is = key-way_in a.state d a e is

-- some row of the instance has the entry
pub record IsReached (ds : List Desired) (rs : List Actual) (e : RouteEntry) : Type 0 where
  pub presence : Presence
  pub row : Actual
  pub found : find_row place_order place_of (key_of e, presence) rs ≡ Some row
  pub entry : entry_among ds row ≡ Some e

pub key-entry_among : (ds : List Desired) (a : Actual) (e : RouteEntry) → entry_among ds a ≡ Some e → key_of e ≡ a.key
key-entry_among ds a e is = key-entry_for (find_row name_order process_of a.key.process ds) a e is

module _ (ds : List Desired) (rs : List Actual) where
  -- a table has the entries that some row has
  pub has-reached : (e : RouteEntry) → IsReached ds rs e → has (routes_in ds rs) e ≡ true
  has-reached e h =
      has-Contains (routes_in ds rs) e
      (Contains-table route_order IsKeyOrder-route_order (filter_map (entry_among ds) rs) e
      (Contains-filter_map (entry_among ds) h.row e rs (Contains-find_row place_order place_of
      (key_of e, h.presence) h.row rs h.found) h.entry))

  pub reached-has : IsRising place_order place_of rs → (e : RouteEntry) → has (routes_in ds rs) e ≡ true
      → IsReached ds rs e
  reached-has rising e h =
      let there = Contains-from_table route_order IsKeyOrder-route_order (filter_map (entry_among ds) rs) e
      (Contains-has (routes_in ds rs) e h) in
      let from = Contains-from_filter_map (entry_among ds) e rs there in
      let a = from.0 in
      let found : find_row place_order place_of (a.key, a.presence) rs ≡ Some a =
      find_row-Contains place_order place_of IsKeyOrder-place_order a rs rising from.1 in
      record {
        presence = a.presence;
        row = a;
        found = subst (λ k. find_row place_order place_of (k, a.presence) rs ≡ Some a)
            (sym (key-entry_among ds a e from.2)) found;
        entry = from.2;
      }

  -- an instance has the entries of its rows
  at-reached : (e : RouteEntry) (h : IsReached ds rs e) → entry_at ds rs (key_of e) h.presence ≡ Some e
  at-reached e h = ap (λ o. option_and_then (entry_among ds) o) h.found ∙ h.entry

  reached-at : (k : Key) (p : Presence) (e : RouteEntry) → entry_at ds rs k p ≡ Some e
      → (key_of e ≡ k) × IsReached ds rs e
  reached-at k p e is =
      elim (find_row place_order place_of (k, p) rs) as (λ (o : Option Actual). find_row place_order place_of (k, p) rs
      ≡ o → option_and_then (entry_among ds) o ≡ Some e → (key_of e ≡ k) × IsReached ds rs e) [
        | None ↦ λ found entry. absurd cc
        | (Some a) ↦ λ found entry.
            let place : place_of a ≡ (k, p) = key-find_row place_order place_of IsKeyOrder-place_order
            (k, p) a rs found in
            let one : key_of e ≡ k = key-entry_among ds a e entry ∙ ap (λ (q : Key × Presence). q.0) place in (
              one,
              record {
                presence = p;
                row = a;
                found = subst (λ q. find_row place_order place_of (q, p) rs ≡ Some a)
                    (sym one) found;
                entry = entry;
              },
            )
      ] refl is

  each-at : (k : Key) (p : Presence) (e : RouteEntry) → entry_at ds rs k p ≡ Some e → Contains (entries_at ds rs k) e
  each-at k Ordinary e is =
      let at = λ (p : Presence). option_to_list (entry_at ds rs k p) in
      Contains-append_left (at Ordinary ++ at Evacuating) (at Suspect) e
      (Contains-append_left (at Ordinary) (at Evacuating) e (Contains-option (entry_at ds rs k Ordinary) e is))
  each-at k Evacuating e is =
      let at = λ (p : Presence). option_to_list (entry_at ds rs k p) in
      Contains-append_left (at Ordinary ++ at Evacuating) (at Suspect) e
      (Contains-append_right (at Ordinary) (at Evacuating) e (Contains-option (entry_at ds rs k Evacuating) e is))
  each-at k Suspect e is =
      let at = λ (p : Presence). option_to_list (entry_at ds rs k p) in
      Contains-append_right (at Ordinary ++ at Evacuating) (at Suspect) e
      (Contains-option (entry_at ds rs k Suspect) e is)

  some-at : (k : Key) (e : RouteEntry) → Contains (entries_at ds rs k) e
      → (p : Presence) × (entry_at ds rs k p ≡ Some e)
  some-at k e h =
      let at = λ (p : Presence). option_to_list (entry_at ds rs k p) in
      elim (Contains-append_cases (at Ordinary ++ at Evacuating) (at Suspect) e h) [
        | (inl first) ↦ elim (Contains-append_cases (at Ordinary) (at Evacuating) e first) [
          | (inl ordinary) ↦ (Ordinary, Contains-from_option (entry_at ds rs k Ordinary) e ordinary)
          | (inr evacuating) ↦ (Evacuating, Contains-from_option (entry_at ds rs k Evacuating) e evacuating)
        ]
        | (inr suspect) ↦ (Suspect, Contains-from_option (entry_at ds rs k Suspect) e suspect)
      ]

  -- the entries of some instances are those of the table that lead to one of them
  pub has-entries_of : IsRising place_order place_of rs → (keys : List Key) (e : RouteEntry)
      → has (entries_of ds rs keys) e ≡ (is_among keys (key_of e) && has (routes_in ds rs) e)
  has-entries_of rising keys e =
      let all = flat_map (entries_at ds rs) keys in
      both_ways (has (entries_of ds rs keys) e) (is_among keys (key_of e) && has (routes_in ds rs) e)
      (λ h.
      let there = Contains-from_flat_map (entries_at ds rs) e keys
      (Contains-from_table route_order IsKeyOrder-route_order all e (Contains-has (entries_of ds rs keys) e h)) in
      let at = some-at there.0 e there.2 in
      let reached = reached-at there.0 at.0 e at.1 in
      and_from (is_among keys (key_of e)) (has (routes_in ds rs) e)
      (subst (λ k. is_among keys k ≡ true) (sym reached.0)
      (found-Contains key_order IsKeyOrder-key_order keys there.0 there.1))
      (has-reached e reached.1))
      (λ h.
      let both = and_parts (is_among keys (key_of e)) (has (routes_in ds rs) e) h in
      let reached = reached-has rising e both.1 in
      has-Contains (entries_of ds rs keys) e
      (Contains-table route_order IsKeyOrder-route_order all e
      (Contains-flat_map (entries_at ds rs) (key_of e) e keys
      (Contains-found key_order IsKeyOrder-key_order keys (key_of e) both.0)
      (each-at (key_of e) reached.presence e (at-reached e reached)))))
