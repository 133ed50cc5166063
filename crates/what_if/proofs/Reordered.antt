-- What doesn't depend on the order of a list.
use Rattle.std.proofs.Common.{◌≡◌, ◌≢◌, ℕ, ◌+◌, ◌<◌, ◌⊎◌, Bool, cond, List, length, map, filter, get_or, swap, Option, Some, None, inl, inr, refl, sym, ap, subst, ◌∙◌, arith}
use Rattle.std.specs.List.{count_by, Contains}
use Rattle.std.specs.List.Sorted.{IsPermutation}
use Rattle.std.specs.declared.cmp.Ordering.{Ordering}
use Rattle.std.proofs.lemmas.Bool.{cases_eq}
use Rattle.std.proofs.lemmas.List.Edits.{Swapped, swapped_from_swap, length-swap}
use Rattle.std.proofs.lemmas.List.Sorted.{Contains-permutation, IsPermutation-keeps, IsPermutation-map, IsPermutation-sym, sum_by-IsPermutation}
use Rattle.std.proofs.lemmas.List.Sums.{length-filter}
use Rattle.row_tables.specs.Table.{find_row, table, IsKeyOrder}
use Rattle.row_tables.proofs.Public.{Contains-find_row, find_row-Contains, find_row-table, key-find_row, same_rows, IsRising-table}
use Rattle.cell_records.specs.declared.job.Job.{Job}
use Rattle.auctioneer.specs.Asked.{AreJobs}
use Rattle.auctioneer.specs.Order.{in_order, turn_of, turn_order}
use Rattle.auctioneer.proofs.Public.{same_turn, IsKeyOrder-turn_order}
use Rattle.what_if.proofs.Differing.{Contains-table, Differ, differ-by}

-- as many pass a test
pub length-reordered : {X : Type 0} (p : X → Bool) (xs ys : List X) → IsPermutation xs ys
    → length (filter p ys) ≡ length (filter p xs)
length-reordered p xs ys h =
    length-filter p ys ∙ sum_by-IsPermutation (λ x. cond (p x) 1 0) xs ys h ∙ sym (length-filter p xs)

-- ---- no two are one in another order

either_way : {X : Type 0} (xs : List X) → Differ xs → (i j : ℕ) (d : X) → i < length xs → j < length xs
    → get_or xs i d ≡ get_or xs j d → i ≡ j
either_way xs h i j d p q e =
    let not_below : i < j → ⊥ = λ less. h i j d less q e in
    let not_above : j < i → ⊥ = λ less. h j i d less p (sym e) in
    omega arith

-- where a swap of a and b took the element at m from
abbrev From : ℕ → ℕ → ℕ → ℕ → Type 0
From a b m k = ((m ≡ a) × (k ≡ b)) ⊎ (((m ≡ b) × (k ≡ a)) ⊎ ((m ≢ a) × (m ≢ b) × (k ≡ m)))

origin : {X : Type 0} (f g : ℕ → X) (a b m : ℕ) → Swapped f g a b → (m ≡ a) ⊎ (m ≢ a) → (m ≡ b) ⊎ (m ≢ b)
    → (k : ℕ) × From a b m k × (g m ≡ f k)
origin f g a b m s (inl e) y = (b, inl (e, refl), ap g e ∙ s.0)
origin f g a b m s (inr n) (inl e) = (a, inr (inl (e, refl)), ap g e ∙ s.1)
origin f g a b m s (inr n) (inr o) = (m, inr (inr (n, o, refl)), s.2 m n o)

differ-swap : {X : Type 0} (xs : List X) (a b : ℕ) → a < length xs → b < length xs → Differ xs → Differ (swap xs a b)
differ-swap xs a b p q h i j d less within e =
    let len = length-swap xs a b in
    let s = swapped_from_swap xs (swap xs a b) a b d p q refl in
    let x = origin _ _ a b i s (cases_eq i a) (cases_eq i b) in
    let y = origin _ _ a b j s (cases_eq j a) (cases_eq j b) in
    let same = either_way xs h x.0 y.0 d (omega (arith, x.1)) (omega (arith, y.1)) (sym x.2 ∙ e ∙ y.2) in
    omega (arith, x.1, y.1)

pub differ-reordered : {X : Type 0} (xs ys : List X) → IsPermutation xs ys → Differ xs → Differ ys
differ-reordered xs ys moved h = IsPermutation-keeps xs Differ h differ-swap ys moved

pub jobs-reordered : (xs ys : List Job) → IsPermutation xs ys → AreJobs xs → AreJobs ys
jobs-reordered xs ys moved h =
    differ-reordered (map (λ (j : Job). j.job) xs) (map (λ (j : Job). j.job) ys)
    (IsPermutation-map (λ (j : Job). j.job) xs ys moved) h

-- ---- a table of unlike keys

module _ {K X : Type 0} (R : K → K → Ordering) (key : X → K) (o : IsKeyOrder R) where
  -- a row is found at its key
  found : (x : X) (xs : List X) → Differ (map key xs) → Contains xs x → find_row R key (key x) xs ≡ Some x
  found x xs differ inside =
      sym (find_row-table R key o (key x) xs)
      ∙ find_row-Contains R key o x (table R key xs) (IsRising-table R key o xs)
      (Contains-table R key o x xs differ inside)

  found_again : (xs ys : List X) → Differ (map key ys) → IsPermutation xs ys → (k : K) (x : X)
      → find_row R key k xs ≡ Some x → find_row R key k ys ≡ Some x
  found_again xs ys differ moved k x e =
      subst (λ (q : K). find_row R key q ys ≡ Some x) (key-find_row R key o k x xs e)
      (found x ys differ (Contains-permutation xs ys x moved (Contains-find_row R key k x xs e)))

  found_alike : (xs ys : List X) → Differ (map key xs) → Differ (map key ys) → IsPermutation xs ys → (k : K)
      → find_row R key k xs ≡ find_row R key k ys
  found_alike xs ys differ also moved k =
      elim (find_row R key k xs) as (λ (f : Option X). find_row R key k xs ≡ f → f ≡ find_row R key k ys) [
        | None ↦ λ none. elim (find_row R key k ys) as (λ (g : Option X). find_row R key k ys ≡ g → None ≡ g) [
          | None ↦ λ e. refl
          | (Some y) ↦ λ e. sym none ∙ found_again ys xs differ (IsPermutation-sym xs ys moved) k y e
        ] refl
        | (Some x) ↦ λ e. sym (found_again xs ys also moved k x e)
      ] refl

  pub table-reordered : (xs ys : List X) → Differ (map key xs) → Differ (map key ys) → IsPermutation xs ys
      → table R key xs ≡ table R key ys
  table-reordered xs ys differ also moved =
      same_rows R key o (table R key xs) (table R key ys) (IsRising-table R key o xs) (IsRising-table R key o ys)
      (λ k. find_row-table R key o k xs ∙ found_alike xs ys differ also moved k ∙ sym (find_row-table R key o k ys))

-- the same jobs are placed in one order
pub order-reordered : (xs ys : List Job) → IsPermutation xs ys → AreJobs xs → in_order xs ≡ in_order ys
order-reordered xs ys moved jobs =
    let turns : (zs : List Job) → AreJobs zs → Differ (map turn_of zs) =
    λ zs. differ-by (λ (j : Job). j.job) turn_of same_turn zs in
    table-reordered turn_order turn_of IsKeyOrder-turn_order xs ys (turns xs jobs)
    (turns ys (jobs-reordered xs ys moved jobs)) moved
