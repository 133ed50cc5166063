-- The index has the instances that run, before and after events.
use Rattle.std.proofs.Common.{◌≡◌, ℕ, ◌+◌, ◌<◌, ◌≤◌, Bool, true, false, ◌&&◌, ◌||◌, cond, List, [], ◌∷◌, ◌++◌, length, take, get_or, Option, Some, None, is_some, refl, sym, ap, subst, ◌∙◌}
use Rattle.std.specs.Prelude.{IfSome, filter}
use Rattle.std.specs.BTreeMap.{is_at}
use Rattle.std.specs.declared.cmp.Ordering.{Ordering}
use Rattle.std.specs.List.{All, Contains}
use Rattle.std.specs.Ordering.{eq_by_cmp}
use Rattle.std.proofs.lemmas.Bool.{false≢true, or_parts}
use Rattle.std.proofs.lemmas.List.{take_all}
use Rattle.std.proofs.lemmas.List.Elements.{All-append, All-cons, All-head, All-more, All-nil, All-tail, All-weaker, Contains-get_or, filter_more}
use Rattle.diego_names.specs.Key.{key_order}
use Rattle.diego_names.specs.declared.key.Key.{Key}
use Rattle.diego_names.proofs.Public.{IsKeyOrder-key_order}
use Rattle.lrp_records.specs.Place.{place_of, place_order}
use Rattle.lrp_records.specs.declared.actual.Actual.{Actual}
use Rattle.lrp_records.specs.declared.desired.Desired.{Desired}
use Rattle.lrp_records.specs.declared.presence.Presence.{Presence}
use Rattle.lrp_records.specs.declared.presence.Presence.TheVariants.{Ordinary, Evacuating, Suspect}
use Rattle.lrp_records.proofs.Public.{IsKeyOrder-place_order}
use Rattle.row_tables.specs.Table.{find_row, put_row, without_row, IsRising}
use Rattle.row_tables.proofs.Public.{All-put_row, find_row-Contains, same_from_tie}
use Rattle.bbs_model.specs.declared.event.Change.{Change}
use Rattle.bbs_model.specs.declared.event.Event.{Event}
use Rattle.bbs_model.specs.declared.event.Row.{Row}
use Rattle.bbs_model.specs.declared.event.Row.TheVariants as row
use Rattle.route_emitter.specs.Keeping.{running_after, running_by, stands}
use Rattle.route_emitter.specs.Near.{Covers, IsFollowed, IsIndexed, WillCover, has_row, has_rows, key_put}
use Rattle.route_emitter.specs.Routes.{is_running, routes_in}
use Rattle.route_emitter.specs.declared.entry.RouteEntry.{RouteEntry}

All-without : {K X : Type 0} (R : K → K → Ordering) (key : X → K) (P : X → Type 0) (q : K) (xs : List X) → All P xs
    → All P (without_row R key q xs)
All-without R key P q [] h = h
All-without R key P q (x ∷ xs) h =
    let rest = All-without R key P q xs (All-tail P x xs h) in
    elim (eq_by_cmp R q (key x)) as (λ b. All P (cond b (without_row R key q xs) (x ∷ without_row R key q xs))) [
      | true ↦ rest
      | false ↦ All-cons P x (without_row R key q xs) (All-head P x xs h) rest
    ]

-- an index that has what another has covers what that covers
pub indexed-more : (some more : Key → Bool) → ((k : Key) → some k ≡ true → more k ≡ true) → (k : Key) → IsIndexed some k
    → IsIndexed more k
indexed-more some more h k at = (h k at.0, at.1)

pub covers-more : (some more : Key → Bool) (rs : List Actual) → ((k : Key) → some k ≡ true → more k ≡ true)
    → Covers some rs → Covers more rs
covers-more some more rs h covers = All-weaker (λ (a : Actual). IsIndexed some a.key)
    (λ (a : Actual). IsIndexed more a.key) (λ a at. indexed-more some more h a.key at) rs covers

-- and so is the table followed by more of an index
pub followed-more : (some more : Key → Bool) (ds ds' : List Desired) (rs rs' : List Actual)
    (entries entries' : List RouteEntry) → ds' ≡ ds → rs' ≡ rs → entries' ≡ entries
    → ((k : Key) → some k ≡ true → more k ≡ true) → IsFollowed some ds rs entries → IsFollowed more ds' rs' entries'
followed-more some more ds ds' rs rs' entries entries' same_ds same_rs same h was = record {
  table = same ∙ was.table ∙ sym (λ i. routes_in (same_ds i) (same_rs i));
  covers = covers-more some more rs' h (subst (λ xs. Covers some xs) (sym same_rs) was.covers);
}

module _ (indexed : Key → Bool) where
  covers-change : (kind : Change) (r : Row) (rs : List Actual) → IfSome (key_put kind r) (IsIndexed indexed)
      → Covers indexed rs → Covers indexed (running_by kind r rs)
  covers-change kind (row.Desired d) rs h covers = covers
  covers-change kind (row.Actual a) rs h covers =
      let P = λ (b : Actual). IsIndexed indexed b.key in
      elim (stands kind && is_running a) as (λ b. IfSome (cond b (Some a.key) None) (IsIndexed indexed)
      → All P (cond b (put_row place_order place_of a rs) (without_row place_order place_of (place_of a) rs))) [
        | true ↦ λ at. All-put_row place_order place_of P a rs at covers
        | false ↦ λ at. All-without place_order place_of P (place_of a) rs covers
      ] h
  covers-change kind (row.Task t) rs h covers = covers
  covers-change kind (row.Cell c) rs h covers = covers
  covers-change kind (row.Domain d) rs h covers = covers

  -- it has those that run after events
  pub covers-after : (es : List Event) (rs : List Actual) → WillCover indexed es → Covers indexed rs
      → Covers indexed (running_after es rs)
  covers-after [] rs h covers = covers
  covers-after (e ∷ es) rs h covers =
      let P = λ (x : Event). IfSome (key_put x.change x.row) (IsIndexed indexed) in
      covers-after es (running_by e.change e.row rs) (All-tail P e es h)
      (covers-change e.change e.row rs (All-head P e es h) covers)

  -- the next row is covered if it runs
  pub covers-next : (rows : List Actual) (i : ℕ) (d : Actual) → i < length rows
      → (is_running (get_or rows i d) ≡ true → IsIndexed indexed (get_or rows i d).key)
      → Covers indexed (filter is_running (take i rows)) → Covers indexed (filter is_running (take (i + 1) rows))
  covers-next rows i d lt at covers =
      let P = λ (b : Actual). IsIndexed indexed b.key in
      let x = get_or rows i d in
      subst (λ xs. All P xs) (sym (filter_more is_running rows i d lt))
      (All-append P (filter is_running (take i rows)) (cond (is_running x) (x ∷ []) []) covers
      (elim (is_running x) as (λ b. (b ≡ true → P x) → All P (cond b (x ∷ []) [])) [
        | true ↦ λ h. All-cons P x [] (h refl) (All-nil P)
        | false ↦ λ h. All-nil P
      ] at))

-- an index with one instance more has the others too
pub indexed-one_more : (some more : Key → Bool) (key : Key)
    → ((k : Key) → more k ≡ cond (is_at (key_order key) k) true (some k)) → (k : Key) → some k ≡ true → more k ≡ true
indexed-one_more some more key added k h =
    added k ∙ elim (is_at (key_order key) k) as (λ b. cond b true (some k) ≡ true) [
      | true ↦ refl
      | false ↦ h
    ]

put-more : (some more : Key → Bool) → ((k : Key) → some k ≡ true → more k ≡ true) → (o : Option Key)
    → IfSome o (IsIndexed some) → IfSome o (IsIndexed more)
put-more some more h None at = tt
put-more some more h (Some k) at = indexed-more some more h k at

put-covered : (indexed : Key → Bool) (o p : Option Key) → o ≡ p → IfSome o (IsIndexed indexed)
    → IfSome p (IsIndexed indexed)
put-covered indexed o p same at = subst (λ x. IfSome x (IsIndexed indexed)) same at

-- the next event is covered too
pub will-next : (some more : Key → Bool) (es : List Event) (i : ℕ) (d : Event) (o : Option Key) → i < length es
    → ((k : Key) → some k ≡ true → more k ≡ true)
    → o ≡ key_put (get_or es i d).change (get_or es i d).row → IfSome o (IsIndexed more) → WillCover some (take i es)
    → WillCover more (take (i + 1) es)
will-next some more es i d o lt h put at covers =
    let P = λ (x : Event). IfSome (key_put x.change x.row) (IsIndexed some) in
    let Q = λ (x : Event). IfSome (key_put x.change x.row) (IsIndexed more) in
    All-more Q es i d lt
    (All-weaker P Q (λ x was. put-more some more h (key_put x.change x.row) was) (take i es) covers)
    (put-covered more o (key_put (get_or es i d).change (get_or es i d).row) put at)

pub will-all : (indexed : Key → Bool) (es : List Event) (i : ℕ) → length es ≤ i → WillCover indexed (take i es)
    → WillCover indexed es
will-all indexed es i le h = subst (λ xs. WillCover indexed xs) (take_all i es le) h

-- an instance without rows has none of any presence
no-row : (rs : List Actual) (k : Key) (p : Presence) → has_rows rs k ≡ false → has_row rs k p ≡ false
no-row rs k Ordinary h = (or_parts (has_row rs k Ordinary) (has_row rs k Evacuating)
    (or_parts (has_row rs k Ordinary || has_row rs k Evacuating) (has_row rs k Suspect) h).0).0
no-row rs k Evacuating h = (or_parts (has_row rs k Ordinary) (has_row rs k Evacuating)
    (or_parts (has_row rs k Ordinary || has_row rs k Evacuating) (has_row rs k Suspect) h).0).1
no-row rs k Suspect h = (or_parts (has_row rs k Ordinary || has_row rs k Evacuating) (has_row rs k Suspect) h).1

-- what goes from the index has no row
pub covers-without : (some fewer : Key → Bool) (rs : List Actual) (key : Key) → IsRising place_order place_of rs
    → has_rows rs key ≡ false
    → ((k : Key) → fewer k ≡ cond (is_at (key_order key) k) false (some k)) → Covers some rs → Covers fewer rs
covers-without some fewer rs key rising idle dropped covers i d lt =
    let a = get_or rs i d in
    let at = covers i d lt in
    let other : is_at (key_order key) a.key ≡ false =
    elim (is_at (key_order key) a.key) as (λ b. is_at (key_order key) a.key ≡ b → b ≡ false) [
      | true ↦ λ tie.
          let one : key ≡ a.key = same_from_tie key_order IsKeyOrder-key_order key a.key tie in
          let found : find_row place_order place_of (a.key, a.presence) rs ≡ Some a =
          find_row-Contains place_order place_of IsKeyOrder-place_order a rs rising (Contains-get_or rs i d lt) in
          let there : has_row rs key a.presence ≡ true = ap (λ k. has_row rs k a.presence) one ∙ ap is_some found in
          absurd (false≢true (sym (no-row rs key a.presence idle) ∙ there))
      | false ↦ λ tie. refl
    ] refl in
    (dropped a.key ∙ ap (λ b. cond b false (some a.key)) other ∙ at.0, at.1)
