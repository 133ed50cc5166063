-- Events change the entries of the instances that they name, and of no others.
use Rattle.std.proofs.Common.{◌≡◌, ◌≢◌, Bool, true, false, ◌&&◌, cond, List, [], ◌∷◌, Option, Some, None, refl, sym, ap, subst, ◌∙◌}
use Rattle.std.specs.Cmp.{both_ways}
use Rattle.std.specs.List.{All}
use Rattle.std.proofs.lemmas.Bool.{false≢true}
use Rattle.std.proofs.lemmas.List.Elements.{All-contains, All-head, All-tail}
use Rattle.diego_names.specs.Key.{key_order}
use Rattle.diego_names.specs.Order.{name_order}
use Rattle.diego_names.specs.declared.key.Key.{Key}
use Rattle.diego_names.proofs.Public.{IsKeyOrder-name_order}
use Rattle.lrp_records.specs.Place.{place_of, place_order}
use Rattle.lrp_records.specs.declared.actual.Actual.{Actual}
use Rattle.lrp_records.specs.declared.desired.Desired.{Desired}
use Rattle.lrp_records.specs.declared.presence.Presence.{Presence}
use Rattle.lrp_records.proofs.Public.{IsKeyOrder-place_order}
use Rattle.row_tables.specs.Table.{find_row, IsRising, put_row, without_row}
use Rattle.row_tables.proofs.Public.{Contains-find_row, find_row-put_row_other, find_row-without_row_other, key-find_row, IsRising-put_row, IsRising-without_row}
use Rattle.bbs_model.specs.Tables.{process_of}
use Rattle.bbs_model.specs.declared.event.Change.{Change}
use Rattle.bbs_model.specs.declared.event.Event.{Event}
use Rattle.bbs_model.specs.declared.event.Row.{Row}
use Rattle.bbs_model.specs.declared.event.Row.TheVariants as row
use Rattle.route_emitter.specs.Entries.{has}
use Rattle.route_emitter.specs.Keeping.{desired_after, desired_by, running_after, running_by, stands, with_desired, with_running}
use Rattle.route_emitter.specs.Near.{AreNamed, Covers, IsIndexed, IsNamed, KeepsOthers, is_among, key_of}
use Rattle.route_emitter.specs.Routes.{entry_among, entry_for, has_route, is_running, routes_in}
use Rattle.route_emitter.specs.declared.entry.RouteEntry.{RouteEntry}
use Rattle.route_emitter.proofs.Reached.{IsReached, has-reached, key-entry_among, reached-has}

-- the places of what is kept still rise
rising-change : (kind : Change) (r : Row) (rs : List Actual) → IsRising place_order place_of rs
    → IsRising place_order place_of (running_by kind r rs)
rising-change kind (row.Desired d) rs h = h
rising-change kind (row.Actual a) rs h =
    elim (stands kind && is_running a) as (λ b. IsRising place_order place_of
    (cond b (put_row place_order place_of a rs) (without_row place_order place_of (place_of a) rs))) [
      | true ↦ IsRising-put_row place_order place_of IsKeyOrder-place_order a rs h
      | false ↦ IsRising-without_row place_order place_of (place_of a) rs h
    ]
rising-change kind (row.Task t) rs h = h
rising-change kind (row.Cell c) rs h = h
rising-change kind (row.Domain d) rs h = h

pub rising-after : (es : List Event) (rs : List Actual) → IsRising place_order place_of rs
    → IsRising place_order place_of (running_after es rs)
rising-after [] rs h = h
rising-after (e ∷ es) rs h = rising-after es (running_by e.change e.row rs) (rising-change e.change e.row rs h)

module _ (indexed : Key → Bool) (named : List Key) where
  -- an instance that isn't named keeps its rows
  rows-kept-change : (kind : Change) (r : Row) (rs : List Actual) (q : Key × Presence) → IsNamed indexed named r
      → is_among named q.0 ≡ false
      → find_row place_order place_of q (running_by kind r rs) ≡ find_row place_order place_of q rs
  rows-kept-change kind (row.Desired d) rs q h not_so = refl
  rows-kept-change kind (row.Actual a) rs q h not_so =
      let other : q ≢ place_of a = λ same. false≢true (sym not_so ∙ ap
      (λ (p : Key × Presence). is_among named p.0) same ∙ h) in
      elim (stands kind && is_running a) as (λ b. find_row place_order place_of q
      (cond b (put_row place_order place_of a rs) (without_row place_order place_of (place_of a) rs))
      ≡ find_row place_order place_of q rs) [
        | true ↦ find_row-put_row_other place_order place_of IsKeyOrder-place_order q a rs other
        | false ↦ find_row-without_row_other place_order place_of IsKeyOrder-place_order q (place_of a) rs other
      ]
  rows-kept-change kind (row.Task t) rs q h not_so = refl
  rows-kept-change kind (row.Cell c) rs q h not_so = refl
  rows-kept-change kind (row.Domain d) rs q h not_so = refl

  rows-kept : (es : List Event) (rs : List Actual) (q : Key × Presence) → AreNamed indexed named es
      → is_among named q.0 ≡ false
      → find_row place_order place_of q (running_after es rs) ≡ find_row place_order place_of q rs
  rows-kept [] rs q h not_so = refl
  rows-kept (e ∷ es) rs q h not_so =
      rows-kept es (running_by e.change e.row rs) q (All-tail (λ (x : Event). IsNamed indexed named x.row) e es h)
      not_so
      ∙ rows-kept-change e.change e.row rs q (All-head (λ (x : Event). IsNamed indexed named x.row) e es h) not_so

  -- and so does the process of one that is indexed
  process-kept-change : (kind : Change) (r : Row) (ds : List Desired) (key : Key) → IsNamed indexed named r
      → IsIndexed indexed key → is_among named key ≡ false
      → find_row name_order process_of key.process (desired_by kind r ds)
      ≡ find_row name_order process_of key.process ds
  process-kept-change kind (row.Desired d) ds key h at not_so =
      let other : key.process ≢ process_of d = λ same. false≢true (sym not_so ∙ h key at same) in
      elim (stands kind && has_route d) as (λ b. find_row name_order process_of key.process
      (cond b (put_row name_order process_of d ds) (without_row name_order process_of d.process ds))
      ≡ find_row name_order process_of key.process ds) [
        | true ↦ find_row-put_row_other name_order process_of IsKeyOrder-name_order key.process d ds other
        | false ↦ find_row-without_row_other name_order process_of IsKeyOrder-name_order key.process d.process ds other
      ]
  process-kept-change kind (row.Actual a) ds key h at not_so = refl
  process-kept-change kind (row.Task t) ds key h at not_so = refl
  process-kept-change kind (row.Cell c) ds key h at not_so = refl
  process-kept-change kind (row.Domain d) ds key h at not_so = refl

  process-kept : (es : List Event) (ds : List Desired) (key : Key) → AreNamed indexed named es → IsIndexed indexed key
      → is_among named key ≡ false
      → find_row name_order process_of key.process (desired_after es ds) ≡ find_row name_order process_of key.process ds
  process-kept [] ds key h at not_so = refl
  process-kept (e ∷ es) ds key h at not_so =
      process-kept es (desired_by e.change e.row ds) key (All-tail (λ (x : Event). IsNamed indexed named x.row) e es h)
      at not_so
      ∙ process-kept-change e.change e.row ds key (All-head (λ (x : Event). IsNamed indexed named x.row) e es h) at
      not_so

-- an entry is reached by other rows too if these are the same of its instance, and its process is desired alike
reached-alike : (ds ds' : List Desired) (rs rs' : List Actual) (e : RouteEntry)
    → find_row name_order process_of e.process ds' ≡ find_row name_order process_of e.process ds
    → ((p : Presence) → find_row place_order place_of (key_of e, p) rs'
    ≡ find_row place_order place_of (key_of e, p) rs) → IsReached ds rs e → IsReached ds' rs' e
reached-alike ds ds' rs rs' e same rows h =
    let place : place_of h.row ≡ (key_of e, h.presence) =
    key-find_row place_order place_of IsKeyOrder-place_order (key_of e, h.presence) h.row rs h.found in
    let process : h.row.key.process ≡ e.process = ap (λ (q : Key × Presence). q.0.process) place in
    record {
      presence = h.presence;
      row = h.row;
      found = rows h.presence ∙ h.found;
      entry =
          ap (λ p. entry_for (find_row name_order process_of p ds') h.row) process
          ∙ ap (λ o. entry_for o h.row) same
          ∙ ap (λ p. entry_for (find_row name_order process_of p ds) h.row) (sym process)
          ∙ h.entry;
    }

module _ (indexed : Key → Bool) (named : List Key) (es : List Event) (ds : List Desired) (rs : List Actual)
    (all : AreNamed indexed named es) (covers : Covers indexed rs) (rising : IsRising place_order place_of rs) where
  -- the process of an entry that some row has is that of an indexed instance
  process-same : (e : RouteEntry) → is_among named (key_of e) ≡ false → IsReached ds rs e
      → find_row name_order process_of e.process (desired_after es ds) ≡ find_row name_order process_of e.process ds
  process-same e not_so h =
      let at : IsIndexed indexed h.row.key = All-contains (λ (a : Actual). IsIndexed indexed a.key) rs h.row covers
      (Contains-find_row place_order place_of (key_of e, h.presence) h.row rs h.found) in
      process-kept indexed named es ds (key_of e) all (subst (λ k. IsIndexed indexed k)
      (sym (key-entry_among ds h.row e h.entry)) at) not_so

  rows-same : (e : RouteEntry) → is_among named (key_of e) ≡ false → (p : Presence)
      → find_row place_order place_of (key_of e, p) (running_after es rs)
      ≡ find_row place_order place_of (key_of e, p) rs
  rows-same e not_so p = rows-kept indexed named es rs (key_of e, p) all not_so

  pub others-kept : KeepsOthers named (routes_in ds rs) (routes_in (desired_after es ds) (running_after es rs))
  others-kept e not_so =
      let ds' = desired_after es ds in
      let rs' = running_after es rs in
      both_ways (has (routes_in ds rs) e) (has (routes_in ds' rs') e)
      (λ h.
      let reached = reached-has ds rs rising e h in
      has-reached ds' rs' e (reached-alike ds ds' rs rs' e (process-same e not_so reached)
      (rows-same e not_so) reached))
      (λ h.
      let reached' = reached-has ds' rs' (rising-after es rs rising) e h in
      let found : find_row place_order place_of (key_of e, reached'.presence) rs ≡ Some reached'.row =
      sym (rows-same e not_so reached'.presence) ∙ reached'.found in
      let at : IsIndexed indexed reached'.row.key = All-contains
      (λ (a : Actual). IsIndexed indexed a.key) rs reached'.row covers
      (Contains-find_row place_order place_of (key_of e, reached'.presence) reached'.row rs found) in
      let same = process-kept indexed named es ds (key_of e) all
      (subst (λ k. IsIndexed indexed k) (sym (key-entry_among ds' reached'.row e reached'.entry)) at) not_so in
      has-reached ds rs e (reached-alike ds' ds rs' rs e (sym same) (λ p. sym (rows-same e not_so p)) reached'))
