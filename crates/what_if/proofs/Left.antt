-- Which instances stand with cells lost: those that stand on a cell that isn't.
use Rattle.std.proofs.Common.{◌≡◌, ℕ, Bool, true, false, cond, ◌&&◌, ◌||◌, not, List, [], ◌∷◌, ◌++◌, map, filter, is_some, Option, Some, refl, sym, ap, ◌∙◌}
use Rattle.std.specs.List.{filter_map, flat_map, list_any}
use Rattle.std.proofs.lemmas.Bool.{or_parts}
use Rattle.std.proofs.lemmas.List.Concat.{flat_map-cons}
use Rattle.std.proofs.lemmas.List.Elements.{filter-append}
use Rattle.diego_names.specs.declared.key.Key.{Key}
use Rattle.cell_records.specs.declared.answer.Answer.{Answer}
use Rattle.auctioneer.specs.Stands.{jobs_of}
use Rattle.what_if.specs.Baselines.{cells_in}
use Rattle.what_if.specs.Stays.{holder_in, instance_in, is_held, is_lost, is_open, same_key, silent_stays, stay_at, stays, stays_on}
use Rattle.what_if.specs.declared.site.Site.{Site}
use Rattle.what_if.specs.declared.site.Stay.{Stay}
use Rattle.what_if.proofs.Agreeing.{any-filter, any-map, any-same}

-- a filter that leaves all
pub filter_all : {X : Type 0} (xs : List X) → filter (λ x. true) xs ≡ xs
filter_all [] = refl
filter_all (x ∷ xs) = ap (λ (ys : List _). x ∷ ys) (filter_all xs)

-- one filter behind another
pub filter_twice : {X : Type 0} (p q : X → Bool) (xs : List X)
    → filter p (filter q xs) ≡ filter (λ x. q x && p x) xs
filter_twice p q [] = refl
filter_twice p q (x ∷ xs) =
    let rest = filter_twice p q xs in
    elim (q x) as (λ b. filter p (cond b (x ∷ filter q xs) (filter q xs))
    ≡ cond (b && p x) (x ∷ filter (λ y. q y && p y) xs) (filter (λ y. q y && p y) xs)) [
      | true ↦ ap (λ (ys : List _). cond (p x) (x ∷ ys) ys) rest
      | false ↦ rest
    ]

pub and_turned : (a b : Bool) → (a && b) ≡ (b && a)
and_turned true true = refl
and_turned true false = refl
and_turned false true = refl
and_turned false false = refl

-- with these cells lost
module _ (lost : List (List ℕ)) where
  abbrev pub is_left : Stay → Bool
  is_left s = not (is_lost lost s.cell)

  -- of what stands on one cell all is left or nothing
  on_cell : (b : Bool) (cell zone : List ℕ) → is_lost lost cell ≡ b → (keys : List Key)
      → filter is_left (map (stay_at cell zone) keys) ≡ cond b [] (map (stay_at cell zone) keys)
  on_cell true cell zone is [] = refl
  on_cell true cell zone is (k ∷ ks) =
      ap (λ (b : Bool). cond (not b) (stay_at cell zone k ∷ filter is_left (map (stay_at cell zone) ks))
      (filter is_left (map (stay_at cell zone) ks))) is
      ∙ on_cell true cell zone is ks
  on_cell false cell zone is [] = refl
  on_cell false cell zone is (k ∷ ks) =
      ap (λ (b : Bool). cond (not b) (stay_at cell zone k ∷ filter is_left (map (stay_at cell zone) ks))
      (filter is_left (map (stay_at cell zone) ks))) is
      ∙ ap (λ (ss : List Stay). stay_at cell zone k ∷ ss) (on_cell false cell zone is ks)

  -- one cell before others
  one_cell : (c : Answer) (l e : Bool) → is_lost lost c.cell ≡ l → (keys : List Key)
      → stays_on c ≡ map (stay_at c.cell c.zone) keys → (fs gs : List Answer)
      → flat_map stays_on fs ≡ filter is_left (flat_map stays_on gs)
      → flat_map stays_on (cond (not l && not e) (c ∷ fs) fs)
      ≡ filter is_left (flat_map stays_on (cond (not e) (c ∷ gs) gs))
  one_cell c true true is keys on fs gs h = h
  one_cell c false true is keys on fs gs h = h
  one_cell c true false is keys on fs gs h =
      h
      ∙ sym (ap (λ (ss : List Stay). ss ++ filter is_left (flat_map stays_on gs)) (ap (filter is_left) on
      ∙ on_cell true c.cell c.zone is keys))
      ∙ sym (filter-append is_left (stays_on c) (flat_map stays_on gs))
      ∙ sym (ap (filter is_left) (flat_map-cons stays_on c gs))
  one_cell c false false is keys on fs gs h =
      flat_map-cons stays_on c fs
      ∙ ap (λ (ss : List Stay). stays_on c ++ ss) h
      ∙ sym (ap (λ (ss : List Stay). ss ++ filter is_left (flat_map stays_on gs)) (ap (filter is_left) on
      ∙ on_cell false c.cell c.zone is keys ∙ sym on))
      ∙ sym (filter-append is_left (stays_on c) (flat_map stays_on gs))
      ∙ sym (ap (filter is_left) (flat_map-cons stays_on c gs))

  cells_left : (cells : List Answer) → flat_map stays_on (filter (is_open lost) cells)
      ≡ filter is_left (flat_map stays_on (filter (is_open []) cells))
  cells_left [] = refl
  cells_left (c ∷ cs) =
      one_cell c (is_lost lost c.cell) c.evacuating refl (filter_map instance_in (jobs_of c.containers)) refl
      (filter (is_open lost) cs) (filter (is_open []) cs)
      (cells_left cs)

  -- what stands with the cells lost is what stands with none lost and not on them
  pub stays_left : (site : Site) → stays site lost ≡ filter is_left (stays site [])
  stays_left site =
      ap (λ (ss : List Stay). ss ++ silent_stays site lost) (cells_left site.cells)
      ∙ ap (λ (ss : List Stay). filter is_left (flat_map stays_on (filter (is_open []) site.cells))
      ++ filter is_left ss)
      (sym (filter_all site.silent_stays))
      ∙ sym (filter-append is_left (flat_map stays_on (filter (is_open []) site.cells)) (silent_stays site []))

-- an instance that stands somewhere is held
found_any : (b : Bool) (x : List ℕ) (o : Option (List ℕ)) → is_some (cond b (Some x) o) ≡ (b || is_some o)
found_any true x o = refl
found_any false x o = refl

held_any : (key : Key) (ss : List Stay) → is_some (holder_in ss key) ≡ list_any (λ s. same_key s.key key) ss
held_any key [] = refl
held_any key (s ∷ ss) =
    found_any (same_key s.key key) s.cell (holder_in ss key)
    ∙ ap (λ (b : Bool). same_key s.key key || b) (held_any key ss)

-- it is held with cells lost if one of the cells on which it stands isn't
pub held_on : (site : Site) (lost : List (List ℕ)) (key : Key)
    → is_held site lost key ≡ list_any (λ cell. not (is_lost lost cell)) (cells_in (stays site []) key)
held_on site lost key =
    let all : List Stay = stays site [] in
    ap (λ (ss : List Stay). is_some (holder_in ss key)) (stays_left lost site)
    ∙ held_any key (filter (is_left lost) all)
    ∙ any-filter (λ (s : Stay). same_key s.key key) (is_left lost) all
    ∙ any-same (λ (s : Stay). is_left lost s && same_key s.key key) (λ s. same_key s.key key && is_left lost s)
    (λ s. and_turned (is_left lost s) (same_key s.key key)) all
    ∙ sym (any-filter (is_left lost) (λ (s : Stay). same_key s.key key) all)
    ∙ sym (any-map (λ (cell : List ℕ). not (is_lost lost cell)) (λ (s : Stay). s.cell)
    (filter (λ (s : Stay). same_key s.key key) all))

-- what passes a test passes the one that everything passes
any_of_all : {X : Type 0} (p : X → Bool) (xs : List X) → list_any p xs ≡ true → list_any (λ x. true) xs ≡ true
any_of_all p [] h = h
any_of_all p (x ∷ xs) h = refl

-- what is held with cells lost is held with none lost
pub held_without : (site : Site) (lost : List (List ℕ)) (key : Key) → is_held site lost key ≡ true
    → is_held site [] key ≡ true
held_without site lost key h =
    held_on site [] key
    ∙ any_of_all (λ (cell : List ℕ). not (is_lost lost cell)) (cells_in (stays site []) key)
    (sym (held_on site lost key) ∙ h)

-- the first cell on which an instance stands is one of these, so that it fails a test that none passes
first_fails : (p : List ℕ → Bool) (s : Stay) (b : Bool) (o : Option (List ℕ)) (rest : List Stay)
    (x : List ℕ) → cond b (Some s.cell) o ≡ Some x
    → list_any p (map (λ (t : Stay). t.cell) (cond b (s ∷ rest) rest)) ≡ false
    → (o ≡ Some x → list_any p (map (λ (t : Stay). t.cell) rest) ≡ false → p x ≡ false) → p x ≡ false
first_fails p s true o rest x e none next =
    let same : s.cell ≡ x = cc in
    ap p (sym same) ∙ (or_parts (p s.cell) (list_any p (map (λ (t : Stay). t.cell) rest)) none).0
first_fails p s false o rest x e none next = next e none

pub holder_fails : (p : List ℕ → Bool) (key : Key) (ss : List Stay) (x : List ℕ) → holder_in ss key ≡ Some x
    → list_any p (cells_in ss key) ≡ false → p x ≡ false
holder_fails p key [] x e none = absurd cc
holder_fails p key (s ∷ ss) x e none =
    first_fails p s (same_key s.key key) (holder_in ss key) (filter (λ (t : Stay). same_key t.key key) ss) x e none
    (holder_fails p key ss x)
