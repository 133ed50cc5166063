-- One line more behind others.
use Rattle.std.proofs.Common.{◌≡◌, ℕ, ◌+◌, ◌<◌, List, [], ◌∷◌, ◌++◌, length, take, get_or, sym, ap, ap₂, ◌∙◌, append_assoc}
use Rattle.std.specs.List.{flat_map}
use Rattle.std.proofs.lemmas.Grind.{flat_map-append}
use Rattle.std.proofs.lemmas.List.{append-nil, take_more}

pub one_more : {X : Type 0} (f : X → List ℕ) (xs : List X) (k : ℕ) (x : X) → k < length xs → x ≡ get_or xs k x
    → (old so_far text : List ℕ) → so_far ≡ old ++ flat_map f (take k xs) → text ≡ f x
    → so_far ++ text ≡ old ++ flat_map f (take (k + 1) xs)
one_more {X = X} f xs k x within read old so_far text before is =
    ap₂ (λ (a b : List ℕ). a ++ b) before is
    ∙ append_assoc old (flat_map f (take k xs)) (f x)
    ∙ ap (λ (t : List ℕ). old ++ t) joined
  where
    more : take (k + 1) xs ≡ take k xs ++ x ∷ []
    more = take_more xs k x within ∙ ap (λ (y : X). take k xs ++ y ∷ []) (sym read)

    joined : flat_map f (take k xs) ++ f x ≡ flat_map f (take (k + 1) xs)
    joined =
        ap (λ (t : List ℕ). flat_map f (take k xs) ++ t) (sym (append-nil (f x)))
        ∙ sym (flat_map-append f (take k xs) (x ∷ []))
        ∙ ap (flat_map f) (sym more)
