-- What a stable sort leaves is its elements, each placed in turn.
use Rattle.std.proofs.Common.{◌≡◌, ℕ, suc, ◌<◌, ◌≤◌, Bool, true, false, cond, not, List, [], ◌∷◌, length, get_or, refl, sym, ap, subst, ◌∙◌, arith}
use Rattle.std.specs.Prelude.{◌&&◌}
use Rattle.std.specs.Cmp.{IsStrictWeakOrder}
use Rattle.std.specs.List.{filter}
use Rattle.std.specs.List.Sorted.{IsSortedBy, IsStableBy, ties}
use Rattle.std.proofs.lemmas.List.Sorted.{sorted_far}
use Rattle.phase_text.specs.Sorting.{with_placed, sorted_by}

module _ {X : Type 0} (lt : X → X → Bool) where
  -- no element of the list stands before x
  abbrev pub IsFirst : X → List X → Type 0
  IsFirst x [] = Unit {0}
  IsFirst x (y ∷ ys) = (lt y x ≡ false) × IsFirst x ys

  -- no element stands before one that it comes behind
  abbrev pub InOrder : List X → Type 0
  InOrder [] = Unit {0}
  InOrder (x ∷ xs) = IsFirst x xs × InOrder xs

  first_from_each : (x : X) (ys : List X) → ((j : ℕ) → j < length ys → lt (get_or ys j x) x ≡ false) → IsFirst x ys
  first_from_each x [] h = tt
  first_from_each x (y ∷ ys) h = (h 0 (omega arith), first_from_each x ys (λ j l. h (suc j) (omega arith)))

  order_from_far : (xs : List X) → ((i j : ℕ) (d : X) → i ≤ j → j < length xs
      → lt (get_or xs j d) (get_or xs i d) ≡ false) → InOrder xs
  order_from_far [] h = tt
  order_from_far (x ∷ xs) h = (
    first_from_each x xs (λ j l. h 0 (suc j) x (omega arith) (omega arith)),
    order_from_far xs (λ i j d le l. h (suc i) (suc j) d (omega arith) (omega arith)),
  )

  -- elements that are sorted stand in order
  pub in_order_from_sorted : IsStrictWeakOrder lt → (xs : List X) → IsSortedBy lt xs → InOrder xs
  in_order_from_sorted o xs up = order_from_far xs (sorted_far lt o xs up)

by_test : {P : Type 0} (b : Bool) → (b ≡ true → P) → (b ≡ false → P) → P
by_test true is isnt = is refl
by_test false is isnt = isnt refl

-- what a choice is, by its test
kept_at : {X : Type 0} (b : Bool) (x : X) (xs : List X) → b ≡ true → cond b (x ∷ xs) xs ≡ x ∷ xs
kept_at true x xs h = refl
kept_at false x xs h = absurd cc

left_at : {X : Type 0} (b : Bool) (x : X) (xs : List X) → b ≡ false → cond b (x ∷ xs) xs ≡ xs
left_at true x xs h = absurd cc
left_at false x xs h = refl

module _ {X : Type 0} (lt : X → X → Bool) (o : IsStrictWeakOrder lt) where
  itself : (x : X) → lt x x ≡ false
  itself x = by_test (lt x x) (λ is. o.one_way x x is) (λ h. h)

  tied : (x y : X) → lt x y ≡ false → lt y x ≡ false → ties lt x y ≡ true
  tied x y a b = λ i. not (a i) && not (b i)

  -- what ties with x is not before it, nor x before it
  tie_left : (x y : X) → ties lt x y ≡ true → lt x y ≡ false
  tie_left x y h = by_test (lt x y) (λ is. let e : not true && not (lt y x) ≡ true =
      subst (λ b. not b && not (lt y x) ≡ true) is h in absurd cc) (λ e. e)

  both_fail : (a : Bool) → not a && not true ≡ true → ⊥
  both_fail true h = absurd cc
  both_fail false h = absurd cc

  tie_right : (x y : X) → ties lt x y ≡ true → lt y x ≡ false
  tie_right x y h = by_test (lt y x) (λ is. absurd (both_fail (lt x y)
      (subst (λ b. not (lt x y) && not b ≡ true) is h))) (λ e. e)

  -- nothing before x ties with it
  before_no_tie : (x y : X) → lt y x ≡ true → ties lt x y ≡ false
  before_no_tie x y h = by_test (ties lt x y) (λ t. let e = tie_right x y t in absurd cc) (λ e. e)

  ties_on : (x a y : X) → ties lt x a ≡ true → ties lt a y ≡ false → ties lt x y ≡ false
  ties_on x a y h isnt = by_test (ties lt x y)
      (λ t.
      let left : lt a y ≡ false = o.chain a x y (tie_right x a h) (tie_left x y t) in
      let right : lt y a ≡ false = o.chain y x a (tie_right x y t) (tie_left x a h) in
      let e = tied a y left right in absurd cc)
      (λ e. e)

  -- a filter by ties of a list with one more in its place
  placed_kept : (x a : X) (ys : List X) → filter (ties lt x) (with_placed lt a ys) ≡ filter (ties lt x) (a ∷ ys)
  placed_kept x a [] = refl
  placed_kept x a (y ∷ ys) =
      let rest = filter (ties lt x) ys in
      by_test (lt y a)
      (λ is.
      ap (λ b. filter (ties lt x) (cond b (y ∷ with_placed lt a ys) (a ∷ y ∷ ys))) is
      ∙ ap (λ zs. cond (ties lt x y) (y ∷ zs) zs) (placed_kept x a ys)
      ∙ by_test (ties lt x a)
      (λ t.
      let none : ties lt x y ≡ false = ties_on x a y t (before_no_tie a y is) in
      left_at (ties lt x y) y (cond (ties lt x a) (a ∷ rest) rest) none
      ∙ ap (λ zs. cond (ties lt x a) (a ∷ zs) zs) (sym (left_at (ties lt x y) y rest none)))
      (λ n.
      ap (λ zs. cond (ties lt x y) (y ∷ zs) zs) (left_at (ties lt x a) a rest n)
      ∙ sym (left_at (ties lt x a) a (cond (ties lt x y) (y ∷ rest) rest) n)))
      (λ n. ap (λ b. filter (ties lt x) (cond b (y ∷ with_placed lt a ys) (a ∷ y ∷ ys))) n)

  -- elements that tie stay in their order
  sorted_kept : (x : X) (xs : List X) → filter (ties lt x) (sorted_by lt xs) ≡ filter (ties lt x) xs
  sorted_kept x [] = refl
  sorted_kept x (a ∷ xs) = placed_kept x a (sorted_by lt xs) ∙ ap (λ zs. cond (ties lt x a) (a ∷ zs) zs)
      (sorted_kept x xs)

  first_further : (x a : X) (ys : List X) → lt a x ≡ false → IsFirst lt a ys → IsFirst lt x ys
  first_further x a [] h f = tt
  first_further x a (y ∷ ys) h f = (o.chain y a x f.0 h, first_further x a ys h f.1)

  first_placed : (x a : X) (ys : List X) → lt a x ≡ false → IsFirst lt x ys → IsFirst lt x (with_placed lt a ys)
  first_placed x a [] h f = (h, tt)
  first_placed x a (y ∷ ys) h f =
      by_test (lt y a)
      (λ is. subst (λ b. IsFirst lt x (cond b (y ∷ with_placed lt a ys) (a ∷ y ∷ ys))) (sym is)
      (f.0, first_placed x a ys h f.1))
      (λ n. subst (λ b. IsFirst lt x (cond b (y ∷ with_placed lt a ys) (a ∷ y ∷ ys))) (sym n) (h, f))

  placed_in_order : (a : X) (ys : List X) → InOrder lt ys → InOrder lt (with_placed lt a ys)
  placed_in_order a [] h = (tt, tt)
  placed_in_order a (y ∷ ys) h =
      by_test (lt y a)
      (λ is. subst (λ b. InOrder lt (cond b (y ∷ with_placed lt a ys) (a ∷ y ∷ ys))) (sym is)
      (first_placed y a ys (o.one_way y a is) h.0, placed_in_order a ys h.1))
      (λ n. subst (λ b. InOrder lt (cond b (y ∷ with_placed lt a ys) (a ∷ y ∷ ys))) (sym n)
      ((n, first_further a y ys n h.0), h))

  -- each in its place, they stand in order
  sorted_in_order : (xs : List X) → InOrder lt (sorted_by lt xs)
  sorted_in_order [] = tt
  sorted_in_order (x ∷ xs) = placed_in_order x (sorted_by lt xs) (sorted_in_order xs)

  -- where something ties with x in a list, nothing that stands before x is first in it
  none_before : (x z : X) (zs : List X) → lt x z ≡ true → IsFirst lt z zs → filter (ties lt x) zs ≡ []
  none_before x z [] h f = refl
  none_before x z (w ∷ zs) h f =
      left_at (ties lt x w) w (filter (ties lt x) zs)
      (by_test (ties lt x w)
      (λ t. let e : lt x z ≡ false = o.chain x w z (tie_left x w t) f.0 in absurd cc)
      (λ e. e))
      ∙ none_before x z zs h f.1

  -- where the filters by ties are the same, neither list's first stands before the other's
  not_before : (y z : X) (ys zs : List X) → IsFirst lt z zs → filter (ties lt y) (y ∷ ys) ≡ filter (ties lt y) (z ∷ zs)
      → lt y z ≡ false
  not_before y z ys zs f same =
      by_test (lt y z)
      (λ is.
      let mine : filter (ties lt y) (y ∷ ys) ≡ y ∷ filter (ties lt y) ys =
      kept_at (ties lt y y) y (filter (ties lt y) ys) (tied y y (itself y) (itself y)) in
      let theirs : filter (ties lt y) (z ∷ zs) ≡ [] = none_before y z (z ∷ zs) is (itself z, f) in
      let clash : y ∷ filter (ties lt y) ys ≡ [] = sym mine ∙ same ∙ theirs in
      absurd cc)
      (λ e. e)

  first_of : (y z : X) (ys zs : List X) → y ∷ ys ≡ z ∷ zs → y ≡ z
  first_of y z ys zs e = cc

  rest_of : (y z : X) (ys zs : List X) → y ∷ ys ≡ z ∷ zs → ys ≡ zs
  rest_of y z ys zs e = cc

  same_rest : (b : Bool) (y : X) (ys zs : List X) → cond b (y ∷ ys) ys ≡ cond b (y ∷ zs) zs → ys ≡ zs
  same_rest true y ys zs e = cc
  same_rest false y ys zs e = e

  -- lists in order that keep the same elements tied with each are the same
  pub same_in_order : (ys zs : List X) → InOrder lt ys → InOrder lt zs
      → ((x : X) → filter (ties lt x) ys ≡ filter (ties lt x) zs) → ys ≡ zs
  same_in_order [] [] h k same = refl
  same_in_order [] (z ∷ zs) h k same =
      let theirs : filter (ties lt z) (z ∷ zs) ≡ z ∷ filter (ties lt z) zs =
      kept_at (ties lt z z) z (filter (ties lt z) zs) (tied z z (itself z) (itself z)) in
      let clash : [] ≡ z ∷ filter (ties lt z) zs = same z ∙ theirs in
      absurd cc
  same_in_order (y ∷ ys) [] h k same =
      let mine : filter (ties lt y) (y ∷ ys) ≡ y ∷ filter (ties lt y) ys =
      kept_at (ties lt y y) y (filter (ties lt y) ys) (tied y y (itself y) (itself y)) in
      let clash : y ∷ filter (ties lt y) ys ≡ [] = sym mine ∙ same y in
      absurd cc
  same_in_order (y ∷ ys) (z ∷ zs) h k same =
      let ahead : lt y z ≡ false = not_before y z ys zs k.0 (same y) in
      let back : lt z y ≡ false = not_before z y zs ys h.0 (sym (same z)) in
      let mine : filter (ties lt y) (y ∷ ys) ≡ y ∷ filter (ties lt y) ys =
      kept_at (ties lt y y) y (filter (ties lt y) ys) (tied y y (itself y) (itself y)) in
      let theirs : filter (ties lt y) (z ∷ zs) ≡ z ∷ filter (ties lt y) zs =
      kept_at (ties lt y z) z (filter (ties lt y) zs) (tied y z ahead back) in
      let one : y ≡ z = first_of y z _ _ (sym mine ∙ same y ∙ theirs) in
      let rest : ys ≡ zs = same_in_order ys zs h.1 k.1 (λ x.
      same_rest (ties lt x y) y (filter (ties lt x) ys) (filter (ties lt x) zs)
      (same x ∙ ap (λ w. cond (ties lt x w) (w ∷ filter (ties lt x) zs) (filter (ties lt x) zs)) (sym one))) in
      λ i. one i ∷ rest i

  -- a stable sort leaves the elements, each placed in turn
  pub sorted_by_is : (xs ys : List X) → IsSortedBy lt ys → IsStableBy lt xs ys → ys ≡ sorted_by lt xs
  sorted_by_is xs ys up stable =
      same_in_order ys (sorted_by lt xs) (in_order_from_sorted lt o ys up) (sorted_in_order xs)
      (λ x. stable x ∙ sym (sorted_kept x xs))
