-- Elements with unlike keys, by their places.
use Rattle.std.proofs.Common.{◌≡◌, ◌≢◌, ℕ, ◌<◌, List, [], ◌∷◌, length, map, get_or, sym, ◌∙◌, arith}
use Rattle.std.specs.List.{AllPairs}
use Rattle.std.proofs.lemmas.List.{length-map, get_or-map}

pub apart_by_key : {X A : Type 0} (f : X → A) (xs : List X)
    → ((i j : ℕ) (d : X) → i < j → j < length xs → f (get_or xs i d) ≢ f (get_or xs j d))
    → AllPairs (λ a b. a ≢ b) (map f xs)
apart_by_key f [] h i j d lt below e = absurd (omega arith)
apart_by_key f (x ∷ xs) h i j d lt below e =
    let here : j < length (x ∷ xs) = simp length-map at below in
    h i j x lt here (sym (get_or-map f (x ∷ xs) i x d (omega arith)) ∙ e ∙ get_or-map f (x ∷ xs) j x d here)

-- elements of which two have one key are not apart
pub not_apart : {X A : Type 0} (f : X → A) (xs : List X) (i j : ℕ) (x y : X) → i < j → j < length xs
    → f (get_or xs i x) ≡ f (get_or xs j y) → AllPairs (λ a b. a ≢ b) (map f xs) → ⊥
not_apart f xs i j x y lt below same apart =
    let here : j < length (map f xs) = omega (arith, below, length-map xs f) in
    apart i j (f x) lt here (get_or-map f xs i x (f x) (omega (arith, lt, below)) ∙ same ∙ sym
    (get_or-map f xs j y (f x) below))
