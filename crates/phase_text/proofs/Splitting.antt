-- What a test keeps and leaves of a list that a point parts by it.
use Rattle.std.proofs.Common.{◌≡◌, ℕ, ◌+◌, ◌<◌, Bool, true, false, cond, not, List, [], ◌∷◌, ◌++◌, length, take, drop, filter, refl, sym, ap, subst, ◌∙◌, arith, take-append-drop}
use Rattle.std.specs.List.{All}
use Rattle.std.specs.List.Sorted.{IsPartitionPoint}
use Rattle.std.proofs.lemmas.List.{append-nil, get_or-take, get_or-drop, length-take, length-drop}
use Rattle.std.proofs.lemmas.List.Elements.{All-head, All-tail, filter-append}

module _ {X : Type 0} (p : X → Bool) where
  keeps_all : (xs : List X) → All (λ x. p x ≡ true) xs → filter p xs ≡ xs
  keeps_all [] h = refl
  keeps_all (x ∷ xs) h =
      ap (λ b. cond b (x ∷ filter p xs) (filter p xs)) (All-head (λ y. p y ≡ true) x xs h)
      ∙ ap (λ ys. x ∷ ys) (keeps_all xs (All-tail (λ y. p y ≡ true) x xs h))

  keeps_none : (xs : List X) → All (λ x. p x ≡ false) xs → filter p xs ≡ []
  keeps_none [] h = refl
  keeps_none (x ∷ xs) h =
      ap (λ b. cond b (x ∷ filter p xs) (filter p xs)) (All-head (λ y. p y ≡ false) x xs h)
      ∙ keeps_none xs (All-tail (λ y. p y ≡ false) x xs h)

-- what stands before the point, and what stands behind it
parts_at : {X : Type 0} (P Q : X → Type 0) (xs : List X) (i : ℕ) → IsPartitionPoint P Q xs i
    → All P (take i xs) × All Q (drop i xs)
parts_at P Q xs i point = (
  λ k d l.
      let within : k < i = omega (arith, length-take i xs, l) in
      subst P (sym (get_or-take i xs k d within)) (point.0 k d (omega arith) within),
  λ k d l.
      let within : i + k < length xs = omega (arith, length-drop i xs, l) in
      subst Q (sym (get_or-drop i xs k d)) (point.1 (i + k) d (omega arith) within),
)

module _ {X : Type 0} (p : X → Bool) (xs : List X) (i : ℕ)
    (point : IsPartitionPoint (λ y. p y ≡ true) (λ y. p y ≡ false) xs i) where
  -- a test keeps what stands before its point
  pub kept_is_front : filter p xs ≡ take i xs
  kept_is_front =
      let parts = parts_at (λ y. p y ≡ true) (λ y. p y ≡ false) xs i point in
      ap (filter p) (sym (take-append-drop i xs))
      ∙ filter-append p (take i xs) (drop i xs)
      ∙ ap (λ ys. ys ++ filter p (drop i xs)) (keeps_all p (take i xs) parts.0)
      ∙ ap (λ ys. take i xs ++ ys) (keeps_none p (drop i xs) parts.1)
      ∙ append-nil (take i xs)

  -- and leaves what stands behind it
  pub left_is_back : filter (λ y. not (p y)) xs ≡ drop i xs
  left_is_back =
      let parts = parts_at (λ y. p y ≡ true) (λ y. p y ≡ false) xs i point in
      ap (filter (λ y. not (p y))) (sym (take-append-drop i xs))
      ∙ filter-append (λ y. not (p y)) (take i xs) (drop i xs)
      ∙ ap (λ ys. ys ++ filter (λ y. not (p y)) (drop i xs))
      (keeps_none (λ y. not (p y)) (take i xs) (λ k d l. ap not (parts.0 k d l)))
      ∙ keeps_all (λ y. not (p y)) (drop i xs) (λ k d l. ap not (parts.1 k d l))
