-- What a put and a removal keep: what holds of each row, and that a number differs from row to row.
use Rattle.std.proofs.Common.{◌≡◌, ℕ, ◌<◌, ◌≤◌, true, false, cond, List, [], ◌∷◌, map, length, Some, None, nat_eq, refl, sym, ap, subst, ◌∙◌, arith}
use Rattle.std.specs.declared.cmp.Ordering.{Ordering}
use Rattle.std.specs.declared.cmp.Ordering.TheVariants.{Less, Equal, Greater}
use Rattle.std.specs.FinMap.Entries.{by_order}
use Rattle.std.specs.List.{AllByRecursion, IsDistinct}
use Rattle.std.specs.Option.{unwrap_or}
use Rattle.std.specs.Ordering.{is_eq, eq_by_cmp}
use Rattle.std.proofs.lemmas.Bool.Decides.{nat_tests}
use Rattle.row_tables.specs.Table.{IsKeyOrder, find_row, put_row, without_row, IsRising}
use Rattle.row_tables.proofs.Public.{length-put_row_new, length-put_row_known, length-without_row, below_rest, IsRising-tail, find_row-below_first}

-- numbers in order differ
below_differs : (a b : ℕ) → a < b → (nat_eq a b ≡ false) × (nat_eq b a ≡ false)
below_differs a b h = (grind (arith, nat_tests), grind (arith, nat_tests))

module _ {K X : Type 0} (R : K → K → Ordering) (key : X → K) where
  pub each-put_row : (P : X → Type 0) (r : X) (xs : List X) → P r → AllByRecursion P xs
      → AllByRecursion P (put_row R key r xs)
  each-put_row P r [] p h = (p, tt)
  each-put_row P r (x ∷ xs) p h =
      elim (R (key r) (key x)) as (λ c. AllByRecursion P (by_order c (r ∷ x ∷ xs) (r ∷ xs) (x ∷ put_row R key r xs))) [
        | Less ↦ (p, h)
        | Equal ↦ (p, h.1)
        | Greater ↦ (h.0, each-put_row P r xs p h.1)
      ]

  pub each-without_row : (P : X → Type 0) (k : K) (xs : List X) → AllByRecursion P xs
      → AllByRecursion P (without_row R key k xs)
  each-without_row P k [] h = tt
  each-without_row P k (x ∷ xs) h =
      elim (eq_by_cmp R k (key x)) as (λ b. AllByRecursion P
      (cond b (without_row R key k xs) (x ∷ without_row R key k xs))) [
        | true ↦ each-without_row P k xs h.1
        | false ↦ (h.0, each-without_row P k xs h.1)
      ]

  pub each-find_row : (P : X → Type 0) (q : K) (x : X) (xs : List X) → AllByRecursion P xs
      → find_row R key q xs ≡ Some x → P x
  each-find_row P q x [] h e = cc
  each-find_row P q x (y ∷ ys) h e =
      elim (eq_by_cmp R q (key y)) as (λ b. cond b (Some y) (find_row R key q ys) ≡ Some x → P x) [
        | true ↦ λ is. let one : y ≡ x = ap (λ s. unwrap_or s x) is in subst P one h.0
        | false ↦ λ is. each-find_row P q x ys h.1 is
      ] e

  -- how many rows a put and a removal leave at most
  pub few-put_row : IsKeyOrder R → (most : ℕ) (r : X) (xs : List X) → IsRising R key xs → length xs ≤ most
      → (find_row R key (key r) xs ≡ None → length xs < most) → length (put_row R key r xs) ≤ most
  few-put_row o most r xs rises few room =
      elim (find_row R key (key r) xs) as (λ known. find_row R key (key r) xs ≡ known
      → length (put_row R key r xs) ≤ most) [
        | None ↦ λ e. let below : length xs < most = room e in omega (arith, length-put_row_new R key o r xs rises e)
        | Some x ↦ λ e. omega (arith, length-put_row_known R key o r x xs rises e)
      ] refl

  pub few-without_row : IsKeyOrder R → (most : ℕ) (k : K) (xs : List X) → IsRising R key xs → length xs ≤ most
      → length (without_row R key k xs) ≤ most
  few-without_row o most k xs rises few = omega (arith, length-without_row R key o k xs rises)

  module _ (f : X → ℕ) where
    -- a row that keeps the number of the one in its place
    pub map-put_row_known : IsKeyOrder R → (r x : X) (xs : List X) → IsRising R key xs
        → find_row R key (key r) xs ≡ Some x → f r ≡ f x → map f (put_row R key r xs) ≡ map f xs
    map-put_row_known o r x [] rises e same = cc
    map-put_row_known o r x (y ∷ ys) rises e same =
        elim (R (key r) (key y)) as (λ c. R (key r) (key y) ≡ c
        → cond (is_eq c) (Some y) (find_row R key (key r) ys) ≡ Some x
        → map f (by_order c (r ∷ y ∷ ys) (r ∷ ys) (y ∷ put_row R key r ys)) ≡ map f (y ∷ ys)) [
          | Less ↦ λ p is. let none : find_row R key (key r) ys ≡ None =
              find_row-below_first R key o (key r) y ys p (below_rest R key y ys rises) in cc
          | Equal ↦ λ p is. let one : y ≡ x = ap (λ s. unwrap_or s x) is in
              ap (λ n. n ∷ map f ys) (same ∙ sym (ap f one))
          | Greater ↦ λ p is. ap (λ ns. f y ∷ ns) (map-put_row_known o r x ys (IsRising-tail R key y ys rises) is same)
        ] refl e

    pub distinct-put_row_known : IsKeyOrder R → (r x : X) (xs : List X) → IsRising R key xs
        → find_row R key (key r) xs ≡ Some x → f r ≡ f x → IsDistinct nat_eq (map f xs)
        → IsDistinct nat_eq (map f (put_row R key r xs))
    distinct-put_row_known o r x xs rises e same h = subst (IsDistinct nat_eq)
        (sym (map-put_row_known o r x xs rises e same)) h

    pub differs-put_row : (n : ℕ) (r : X) (xs : List X) → nat_eq n (f r) ≡ false
        → AllByRecursion (λ m. nat_eq n m ≡ false) (map f xs)
        → AllByRecursion (λ m. nat_eq n m ≡ false) (map f (put_row R key r xs))
    differs-put_row n r [] p h = (p, tt)
    differs-put_row n r (x ∷ xs) p h =
        elim (R (key r) (key x)) as (λ c. AllByRecursion (λ m. nat_eq n m ≡ false)
        (map f (by_order c (r ∷ x ∷ xs) (r ∷ xs) (x ∷ put_row R key r xs)))) [
          | Less ↦ (p, h)
          | Equal ↦ (p, h.1)
          | Greater ↦ (h.0, differs-put_row n r xs p h.1)
        ]

    pub differs-without_row : (n : ℕ) (k : K) (xs : List X) → AllByRecursion (λ m. nat_eq n m ≡ false) (map f xs)
        → AllByRecursion (λ m. nat_eq n m ≡ false) (map f (without_row R key k xs))
    differs-without_row n k [] h = tt
    differs-without_row n k (x ∷ xs) h =
        elim (eq_by_cmp R k (key x)) as (λ b. AllByRecursion (λ m. nat_eq n m ≡ false)
        (map f (cond b (without_row R key k xs) (x ∷ without_row R key k xs)))) [
          | true ↦ differs-without_row n k xs h.1
          | false ↦ (h.0, differs-without_row n k xs h.1)
        ]

    -- a number above those of all rows differs from each
    differs-above : (n : ℕ) (xs : List X) → AllByRecursion (λ x. f x < n) xs
        → AllByRecursion (λ m. nat_eq n m ≡ false) (map f xs)
    differs-above n [] h = tt
    differs-above n (x ∷ xs) h = ((below_differs (f x) n h.0).1, differs-above n xs h.1)

    -- a row with a number above those of all rows
    pub distinct-put_row_above : (r : X) (xs : List X) → AllByRecursion (λ x. f x < f r) xs
        → IsDistinct nat_eq (map f xs) → IsDistinct nat_eq (map f (put_row R key r xs))
    unfolding IsDistinct
    distinct-put_row_above r [] below h = (tt, tt)
    distinct-put_row_above r (x ∷ xs) below h =
        elim (R (key r) (key x)) as (λ c. IsDistinct nat_eq
        (map f (by_order c (r ∷ x ∷ xs) (r ∷ xs) (x ∷ put_row R key r xs)))) [
          | Less ↦ (differs-above (f r) (x ∷ xs) below, h)
          | Equal ↦ (differs-above (f r) xs below.1, h.1)
          | Greater ↦ (
            differs-put_row (f x) r xs (below_differs (f x) (f r) below.0).0 h.0,
            distinct-put_row_above r xs below.1 h.1,
          )
        ]

    pub distinct-without_row : (k : K) (xs : List X) → IsDistinct nat_eq (map f xs)
        → IsDistinct nat_eq (map f (without_row R key k xs))
    unfolding IsDistinct
    distinct-without_row k [] h = tt
    distinct-without_row k (x ∷ xs) h =
        elim (eq_by_cmp R k (key x)) as (λ b. IsDistinct nat_eq
        (map f (cond b (without_row R key k xs) (x ∷ without_row R key k xs)))) [
          | true ↦ distinct-without_row k xs h.1
          | false ↦ (differs-without_row (f x) k xs h.0, distinct-without_row k xs h.1)
        ]
