-- What stays of numbers in some order where those go that are not below a count.
use Rattle.std.proofs.Common.{◌≡◌, ℕ, zero, suc, ◌+◌, ◌≤◌, ◌<◌, ◌⊎◌, inl, inr, All, Bool, true, false, cond, List, [], ◌∷◌, filter, length, get_or, set, swap, refl, sym, ap, subst, arith, ltb, lt-ltb, le-ltb}
use Rattle.std.specs.List.{range_with_len, AllByRecursion}
use Rattle.bbs_index.specs.Order.{AreBelow, IsOrder}
use Rattle.bbs_index.proofs.Ordering.{AreBelow-length, AreBelow-order}
use Rattle.std.specs.List.Sorted.{IsPermutation}
use Rattle.std.proofs.lemmas.List.Sorted.{IsPermutation-refl, IsPermutation-cons, IsPermutation-swap, IsPermutation-trans, IsPermutation-keeps, All-permutation}
use Rattle.std.proofs.lemmas.List.Elements.{All-nil, All-cons, recursion_from_All}
use Rattle.std.proofs.lemmas.Bool.{cases_lt}

module _ {X : Type 0} (p : X → Bool) where
  -- both pass the same
  abbrev Passes : List X → List X → Type 0
  Passes xs ys = IsPermutation (filter p xs) (filter p ys)

  under : (x : X) (xs ys : List X) → Passes xs ys → Passes (x ∷ xs) (x ∷ ys)
  under x xs ys h =
      elim (p x) as (λ b. IsPermutation (cond b (x ∷ filter p xs) (filter p xs))
      (cond b (x ∷ filter p ys) (filter p ys))) [
        | true ↦ IsPermutation-cons x (filter p xs) (filter p ys) h
        | false ↦ h
      ]

  turned : (x y : X) (xs : List X) → Passes (x ∷ y ∷ xs) (y ∷ x ∷ xs)
  turned x y xs =
      let fs = filter p xs in
      elim (p x) as (λ a. IsPermutation (cond a (x ∷ cond (p y) (y ∷ fs) fs) (cond (p y) (y ∷ fs) fs))
      (cond (p y) (y ∷ cond a (x ∷ fs) fs) (cond a (x ∷ fs) fs))) [
        | true ↦ elim (p y) as (λ b. IsPermutation (x ∷ cond b (y ∷ fs) fs) (cond b (y ∷ x ∷ fs) (x ∷ fs))) [
          | true ↦ IsPermutation-swap (x ∷ y ∷ fs) (y ∷ x ∷ fs) 0 1 (omega arith) (omega arith) refl
          | false ↦ IsPermutation-refl (x ∷ fs)
        ]
        | false ↦ IsPermutation-refl (cond (p y) (y ∷ fs) fs)
      ]

  to_head : (xs : List X) (j : ℕ) (x d : X) → j < length xs → Passes (x ∷ xs) (get_or xs j d ∷ set xs j x)
  to_head [] j x d lt = absurd (omega arith)
  to_head (y ∷ ys) zero x d lt = turned x y ys
  to_head (y ∷ ys) (suc j) x d lt =
      let z = get_or ys j d in
      let zs = set ys j x in
      IsPermutation-trans _ (filter p (y ∷ x ∷ ys)) _ (turned x y ys)
      (IsPermutation-trans _ (filter p (y ∷ z ∷ zs)) _ (under y (x ∷ ys) (z ∷ zs) (to_head ys j x d (omega arith)))
      (turned y z zs))

  exchanged : (xs : List X) (i j : ℕ) (d : X) → i < length xs → j < length xs
      → Passes xs (set (set xs i (get_or xs j d)) j (get_or xs i d))
  exchanged [] i j d first second = absurd (omega arith)
  exchanged (x ∷ xs) zero zero d first second = IsPermutation-refl _
  exchanged (x ∷ xs) zero (suc j) d first second = to_head xs j x d (omega arith)
  exchanged (x ∷ xs) (suc i) zero d first second = to_head xs i x d (omega arith)
  exchanged (x ∷ xs) (suc i) (suc j) d first second = under x xs (set (set xs i (get_or xs j d)) j (get_or xs i d))
      (exchanged xs i j d (omega arith) (omega arith))

  swapped : (xs : List X) (i j : ℕ) → i < length xs → j < length xs → Passes xs (swap xs i j)
  swapped [] i j first second = IsPermutation-refl []
  swapped (x ∷ xs) i j first second = exchanged (x ∷ xs) i j x first second

  IsPermutation-filter : (xs ys : List X) → IsPermutation xs ys → Passes xs ys
  IsPermutation-filter xs = IsPermutation-keeps xs (Passes xs) (IsPermutation-refl _)
      (λ l i j first second h. IsPermutation-trans _ (filter p l) _ h (swapped l i j first second))

-- of numbers from the count on none is below it
none_below : (count a n : ℕ) → count ≤ a → filter (λ m. ltb m count) (range_with_len a n) ≡ []
none_below count a zero le = refl
none_below count a (suc n) le = rw (le-ltb a count le) (none_below count (a + 1) n (omega arith))

-- of numbers that rise the first ones are below it
first_below : (count a k n : ℕ) → a + k ≡ count → k ≤ n
    → filter (λ m. ltb m count) (range_with_len a n) ≡ range_with_len a k
first_below count a zero n is le = none_below count a n (omega arith)
first_below count a (suc k) zero is le = absurd (omega arith)
first_below count a (suc k) (suc n) is le = rw (lt-ltb a count (omega arith))
    (ap (λ ms. a ∷ ms) (first_below count (a + 1) k n (omega arith) (omega arith)))

filter_all : {X : Type 0} (p : X → Bool) (xs : List X) → AllByRecursion (λ x. p x ≡ true) xs → filter p xs ≡ xs
filter_all p [] all = refl
filter_all p (x ∷ xs) all = rw (all.0, filter_all p xs all.1)

all_below : (count a n : ℕ) → a + n ≤ count → All (λ m. ltb m count ≡ true) (range_with_len a n)
all_below count a zero le = All-nil (λ m. ltb m count ≡ true)
all_below count a (suc n) le = All-cons (λ m. ltb m count ≡ true) a (range_with_len (a + 1) n)
    (lt-ltb a count (omega arith)) (all_below count (a + 1) n (omega arith))

-- where there are no more than the count, all are below it
pub filter_few : (count : ℕ) (numbers : List ℕ) → IsOrder numbers → length numbers ≤ count
    → filter (λ m. ltb m count) numbers ≡ numbers
filter_few count numbers are le =
    let Passes : ℕ → Type 0 = λ m. ltb m count ≡ true in
    filter_all (λ m. ltb m count) numbers
    (recursion_from_All Passes numbers (All-permutation Passes (range_with_len 0 (length numbers)) numbers are
    (all_below count 0 (length numbers) (omega arith))))

-- those that are below a count are an order of no more than so many
pub IsOrder-filter : (count : ℕ) (numbers kept : List ℕ) → IsOrder numbers → kept ≡ filter (λ m. ltb m count) numbers
    → IsOrder kept × (length kept ≤ count)
IsOrder-filter count numbers kept are is = subst (λ ms. IsOrder ms × (length ms ≤ count)) (sym is)
    (by (cases_lt count (length numbers)))
  where
    stay : List ℕ
    stay = filter (λ m. ltb m count) numbers

    by : (count < length numbers) ⊎ (length numbers ≤ count) → IsOrder stay × (length stay ≤ count)
    by (inl less) =
        let below : AreBelow count stay =
        subst (λ ms. IsPermutation ms stay) (first_below count 0 count (length numbers) (omega arith) (omega arith))
        (IsPermutation-filter (λ m. ltb m count) (range_with_len 0 (length numbers)) numbers are) in
        (AreBelow-order count stay below, omega (arith, AreBelow-length count stay below))
    by (inr le) = subst (λ ms. IsOrder ms × (length ms ≤ count)) (sym (filter_few count numbers are le)) (are, le)
