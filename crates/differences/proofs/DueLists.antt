-- The keys of entries that pass a test, and lists of subjects that are made of them.
use Rattle.std.proofs.Common.{◌≡◌, ℕ, zero, suc, Bool, true, false, cond, List, [], ◌∷◌, ◌++◌, length, map, take, option_to_list, slice_get, Option, Some, None, is_some, refl, ap, sym, ◌∙◌, inl, inr, arith}
use Rattle.std.specs.Cmp.{IsEquivalence}
use Rattle.std.specs.List.{Contains, IsDistinct, filter_map, cons_option}
use Rattle.std.specs.Map.{keys_of, lookup}
use Rattle.std.specs.declared.cmp.Ordering.{Ordering}
use Rattle.std.proofs.lemmas.Map.Views.{Contains-from_lookup, lookup-from_Contains}
use Rattle.row_tables.specs.Table.{IsKeyOrder}
use Rattle.convergence.proofs.Public.{Contains-cons, Contains-cons_cases}
use Rattle.convergence.proofs.Public.{Contains-table, Contains-from_table}
use Rattle.crash_backoff.specs.declared.moment.Moment.{Moment}
use Rattle.work_causes.specs.Causes.{Ends, any_holds_by}
use Rattle.work_causes.specs.declared.cause.Cause.{Cause}
use Rattle.differences.specs.Due.{due_keys, keys_due, keys_that}
use Rattle.differences.proofs.Keys.{TellsApart}

module _ {K V : Type 0} (test : V → Bool) where
  -- the key of an entry that passes is among them
  pub keys_that-in : (k : K) (v : V) (es : List (K × V)) → Contains es (k, v) → test v ≡ true
      → Contains (keys_that test es) k
  keys_that-in k v [] (n, lt, at) passes = absurd (omega arith)
  keys_that-in k v (e ∷ es) h passes =
      elim (test e.1) as (λ (b : Bool). test e.1 ≡ b → Contains
      (cond b (e.0 ∷ keys_that test es) (keys_that test es)) k) [
        | true ↦ λ is. elim (Contains-cons_cases (k, v) e es h) as (λ _. Contains (e.0 ∷ keys_that test es) k) [
          | (inl one) ↦ (0, omega arith, ap (λ (p : K × V). p.0) one)
          | (inr rest) ↦ Contains-cons k e.0 (keys_that test es) (keys_that-in k v es rest passes)
        ]
        | false ↦ λ is. elim (Contains-cons_cases (k, v) e es h) as (λ _. Contains (keys_that test es) k) [
          | (inl one) ↦ let here : test e.1 ≡ true = ap (λ (p : K × V). test p.1) one ∙ passes in absurd cc
          | (inr rest) ↦ keys_that-in k v es rest passes
        ]
      ] refl

  -- and each of them is of such an entry
  pub keys_that-from : (k : K) (es : List (K × V)) → Contains (keys_that test es) k
      → (v : V) × Contains es (k, v) × (test v ≡ true)
  keys_that-from k [] (n, lt, at) = absurd (omega arith)
  keys_that-from k (e ∷ es) h =
      elim (test e.1) as (λ (b : Bool). test e.1 ≡ b → Contains (cond b (e.0 ∷ keys_that test es) (keys_that test es)) k
      → (v : V) × Contains (e ∷ es) (k, v) × (test v ≡ true)) [
        | true ↦ λ is g. elim (Contains-cons_cases k e.0 (keys_that test es) g) as
            (λ _. (v : V) × Contains (e ∷ es) (k, v) × (test v ≡ true)) [
              | (inl one) ↦ (e.1, (0, omega arith, λ i. (one i, e.1)), is)
              | (inr rest) ↦ let r = keys_that-from k es rest in (r.0, Contains-cons (k, r.0) e es r.1, r.2)
            ]
        | false ↦ λ is g. let r = keys_that-from k es g in (r.0, Contains-cons (k, r.0) e es r.1, r.2)
      ] refl h

  -- those of two lists of entries
  pub keys_that-append : (es fs : List (K × V)) → keys_that test (es ++ fs) ≡ keys_that test es ++ keys_that test fs
  keys_that-append [] fs = refl
  keys_that-append (e ∷ es) fs =
      elim (test e.1) as (λ (b : Bool). cond b (e.0 ∷ keys_that test (es ++ fs)) (keys_that test (es ++ fs))
      ≡ cond b (e.0 ∷ keys_that test es) (keys_that test es) ++ keys_that test fs) [
        | true ↦ ap (λ ks. e.0 ∷ ks) (keys_that-append es fs)
        | false ↦ keys_that-append es fs
      ]

module _ {K V : Type 0} {same : K → K → Bool} (t : TellsApart same) (laws : IsEquivalence same) (R : K → K → Ordering)
    (o : IsKeyOrder R)
    (causes : V → List Cause) (ends : Ends) (now : Moment) (es : List (K × V)) where
  -- an entry of which a cause holds is due
  pub due-in : (k : K) (v : V) → lookup (same k) es ≡ Some v → any_holds_by ends now (causes v) ≡ true
      → Contains (due_keys R causes ends now es) k
  due-in k v found holds =
      Contains-table R o (keys_due causes ends now es) k
      (keys_that-in (λ (w : V). any_holds_by ends now (causes w)) k v es
      (Contains-from_lookup t.exact k v es found) holds)

  -- and nothing else is
  pub due-from : IsDistinct same (keys_of es) → (k : K) → Contains (due_keys R causes ends now es) k
      → (v : V) × (lookup (same k) es ≡ Some v) × (any_holds_by ends now (causes v) ≡ true)
  due-from once k h =
      let r = keys_that-from (λ (w : V). any_holds_by ends now (causes w)) k es
      (Contains-from_table R o (keys_due causes ends now es) k h) in
      (r.0, lookup-from_Contains laws k r.0 es once r.1, r.2)

module _ {X Y : Type 0} where
  -- what is made of each is what is made and kept of each
  pub filter_map-some : (g : X → Y) (xs : List X) → filter_map (λ x. Some (g x)) xs ≡ map g xs
  filter_map-some g [] = refl
  filter_map-some g (x ∷ xs) = ap (λ ys. g x ∷ ys) (filter_map-some g xs)

  -- two ways that agree on a list
  pub filter_map-agree : (f h : X → Option Y) (xs : List X) → ((x : X) → Contains xs x → f x ≡ h x)
      → filter_map f xs ≡ filter_map h xs
  filter_map-agree f h [] alike = refl
  filter_map-agree f h (x ∷ xs) alike =
      λ i. cons_option (alike x (0, omega arith, refl) i) (filter_map-agree f h xs
      (λ y g. alike y (Contains-cons y x xs g)) i)

  -- where each gives something, nothing gets lost
  pub length-filter_map : (f : X → Option Y) (xs : List X) → ((x : X) → Contains xs x → is_some (f x) ≡ true)
      → length (filter_map f xs) ≡ length xs
  length-filter_map f [] each = refl
  length-filter_map f (x ∷ xs) each =
      let rest = length-filter_map f xs (λ y g. each y (Contains-cons y x xs g)) in
      elim (f x) as (λ (s : Option Y). is_some s ≡ true → length (cons_option s (filter_map f xs)) ≡ length (x ∷ xs)) [
        | None ↦ λ e. absurd cc
        | (Some y) ↦ λ e. ap suc rest
      ] (each x (0, omega arith, refl))

-- what is made and kept of what is made
pub filter_map-map : {X Y Z : Type 0} (f : Y → Option Z) (g : X → Y) (xs : List X)
    → filter_map f (map g xs) ≡ filter_map (λ x. f (g x)) xs
filter_map-map f g [] = refl
filter_map-map f g (x ∷ xs) = ap (cons_option (f (g x))) (filter_map-map f g xs)

-- a list without length is empty
pub empty-length : {X : Type 0} (xs : List X) → length xs ≡ 0 → xs ≡ []
empty-length [] e = refl
empty-length (x ∷ xs) e = absurd (omega arith)

-- one entry more
take_next : {X : Type 0} (xs : List X) (n : ℕ) → take (suc n) xs ≡ take n xs ++ option_to_list (slice_get xs n)
take_next [] zero = refl
take_next [] (suc n) = refl
take_next (x ∷ xs) zero = refl
take_next (x ∷ xs) (suc n) = ap (λ ys. x ∷ ys) (take_next xs n)

module _ {K V : Type 0} (test : V → Bool) where
  -- the keys that pass of one entry more
  pub due_more : (es : List (K × V)) (n j : ℕ) (found new : List K) → j ≡ suc n → found ≡ keys_that test (take n es)
      → new ≡ found ++ keys_that test (option_to_list (slice_get es n)) → new ≡ keys_that test (take j es)
  due_more es n j found new next was is =
      is ∙ ap (λ ks. ks ++ keys_that test (option_to_list (slice_get es n))) was
      ∙ sym (ap (λ m. keys_that test (take m es)) next ∙ ap (keys_that test) (take_next es n) ∙ keys_that-append test
      (take n es) (option_to_list (slice_get es n)))

  -- where none passes, no entry does
  pub none_at : (es : List (K × V)) (n : ℕ) → keys_that test es ≡ []
      → keys_that test (option_to_list (slice_get es n)) ≡ []
  none_at [] zero none = refl
  none_at [] (suc n) none = refl
  none_at (e ∷ es) zero none =
      elim (test e.1) as (λ (b : Bool). cond b (e.0 ∷ keys_that test es) (keys_that test es) ≡ []
      → cond b (e.0 ∷ []) [] ≡ []) [
        | true ↦ λ h. absurd cc
        | false ↦ λ h. refl
      ] none
  none_at (e ∷ es) (suc n) none =
      elim (test e.1) as (λ (b : Bool). cond b (e.0 ∷ keys_that test es) (keys_that test es) ≡ []
      → keys_that test (option_to_list (slice_get es n)) ≡ []) [
        | true ↦ λ h. absurd cc
        | false ↦ λ h. none_at es n h
      ] none

  -- an entry by itself
  pub one_due : (k : K) (v : V) (b : Bool) → test v ≡ b → keys_that test ((k, v) ∷ []) ≡ cond b (k ∷ []) []
  one_due k v b e = ap (λ (c : Bool). cond c (k ∷ []) []) e
