-- Lists that are made item by item.
use Rattle.std.proofs.Common.{◌≡◌, ℕ, zero, suc, ◌+◌, ◌<◌, List, [], ◌∷◌, ◌++◌, length, take, get_or, Option, Some, None, refl, sym, ap, ◌∙◌, append_assoc, arith, ⊎_elim, inl, inr, ◌⊎◌}
use Rattle.std.proofs.lemmas.List.{take_more}
use Rattle.std.proofs.lemmas.List.Elements.{filter_map-append}
use Rattle.std.specs.List.{Contains, filter_map, cons_option}
use Rattle.std.specs.Option.{option_to_list}

one_more : {X : Type 0} (xs : List X) (i : ℕ) (x : X) → i < length xs → x ≡ get_or xs i x
    → take (i + 1) xs ≡ take i xs ++ x ∷ []
one_more xs i x lt is = take_more xs i x lt ∙ ap (λ y. take i xs ++ y ∷ []) (sym is)

passed_one : {X Y : Type 0} (f : X → Option Y) (x : X) (o : Option Y) → f x ≡ o
    → filter_map f (x ∷ []) ≡ option_to_list o
passed_one f x None e = rw e refl
passed_one f x (Some y) e = rw e refl

-- what is kept of one item more
pub kept_more : {X Y : Type 0} (f : X → Option Y) (xs : List X) (i : ℕ) (x : X) (start so next : List Y) → i < length xs
    → x ≡ get_or xs i x
    → so ≡ start ++ filter_map f (take i xs) → next ≡ so ++ option_to_list (f x)
    → next ≡ start ++ filter_map f (take (i + 1) xs)
kept_more f xs i x start so next lt is at more =
    more ∙ ap (λ ys. ys ++ option_to_list (f x)) at
    ∙ append_assoc start (filter_map f (take i xs)) (option_to_list (f x))
    ∙ ap (λ ys. start ++ (filter_map f (take i xs) ++ ys)) (sym (passed_one f x (f x) refl))
    ∙ ap (λ ys. start ++ ys) (sym (filter_map-append f (take i xs) (x ∷ [])))
    ∙ ap (λ ys. start ++ filter_map f ys) (sym (one_more xs i x lt is))

by_place : {X : Type 0} (x : X) (xs : List X) (y : X) (k : ℕ) → k < length (x ∷ xs) → get_or (x ∷ xs) k y ≡ y
    → (x ≡ y) ⊎ Contains xs y
by_place x xs y zero within is = inl is
by_place x xs y (suc k) within is = inr (k, omega (arith, within), is)

-- the first of some elements, or one of the others
pub first_or_rest : {X : Type 0} (x : X) (xs : List X) (y : X) → Contains (x ∷ xs) y → (x ≡ y) ⊎ Contains xs y
first_or_rest x xs y here = by_place x xs y here.0 here.1 here.2

later_by_one : {X Y : Type 0} (f : X → Option Y) (x : X) (xs : List X) (y : Y)
    → ((z : X) × Contains xs z × (f z ≡ Some y)) → (z : X) × Contains (x ∷ xs) z × (f z ≡ Some y)
later_by_one f x xs y r = (r.0, (suc r.1.0, omega (arith, r.1.1), r.1.2), r.2)

from_kept_one : {X Y : Type 0} (f : X → Option Y) (x : X) (xs : List X) (y : Y) (o : Option Y) → f x ≡ o
    → (Contains (filter_map f xs) y → (z : X) × Contains xs z × (f z ≡ Some y))
    → Contains (cons_option o (filter_map f xs)) y → (z : X) × Contains (x ∷ xs) z × (f z ≡ Some y)
from_kept_one f x xs y None e rest here = later_by_one f x xs y (rest here)
from_kept_one f x xs y (Some v) e rest here = ⊎_elim
    (λ same. (x, (0, omega arith, refl), e ∙ ap (λ w. Some w) same))
    (λ h. later_by_one f x xs y (rest h))
    (first_or_rest v (filter_map f xs) y here)

-- what was kept came of an item
pub from_kept : {X Y : Type 0} (f : X → Option Y) (xs : List X) (y : Y) → Contains (filter_map f xs) y
    → (x : X) × Contains xs x × (f x ≡ Some y)
from_kept f [] y here = absurd (omega (arith, here.1))
from_kept f (x ∷ xs) y here = from_kept_one f x xs y (f x) refl (from_kept f xs y) here
