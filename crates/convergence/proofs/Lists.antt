-- Lists that are made item by item.
use Rattle.std.proofs.Common.{◌≡◌, ℕ, ◌+◌, ◌<◌, List, [], ◌∷◌, ◌++◌, length, take, get_or, map, Option, Some, None, refl, sym, ap, ◌∙◌, append_assoc, arith}
use Rattle.std.proofs.lemmas.List.{map-append, take_more}
use Rattle.std.proofs.lemmas.List.FromFn.{map-range_with_len_more}
use Rattle.std.proofs.lemmas.List.Elements.{filter_map-append}
use Rattle.std.specs.List.{filter_map, range_with_len}
use Rattle.std.specs.Option.{option_map, option_to_list}

-- one row more of those before a place
pub one_more : {X : Type 0} (xs : List X) (i : ℕ) (x : X) → i < length xs → x ≡ get_or xs i x
    → take (i + 1) xs ≡ take i xs ++ x ∷ []
one_more xs i x lt is = take_more xs i x lt ∙ ap (λ y. take i xs ++ y ∷ []) (sym is)

-- what is made of one number more
pub made_more : {X : Type 0} (f : ℕ → X) (start so : List X) (i : ℕ) → so ≡ start ++ map f (range_with_len 0 i)
    → so ++ f i ∷ [] ≡ start ++ map f (range_with_len 0 (i + 1))
made_more f start so i at =
    ap (λ xs. xs ++ f i ∷ []) at ∙ append_assoc start (map f (range_with_len 0 i)) (f i ∷ [])
    ∙ ap (λ xs. start ++ xs) (sym (map-range_with_len_more f 0 i i (omega arith)))

mapped_one : {Y Z : Type 0} (g : Y → Z) (o : Option Y) → map g (option_to_list o) ≡ option_to_list (option_map g o)
mapped_one g None = refl
mapped_one g (Some y) = refl

passed_one : {X Y : Type 0} (f : X → Option Y) (x : X) (o : Option Y) → f x ≡ o
    → filter_map f (x ∷ []) ≡ option_to_list o
passed_one f x None e = rw e refl
passed_one f x (Some y) e = rw e refl

-- what is asked of one row more
pub asked_more : {X Y Z : Type 0} (f : X → Option Y) (g : Y → Z) (xs : List X) (i : ℕ) (x : X) (start so : List Z)
    → i < length xs → x ≡ get_or xs i x
    → so ≡ start ++ map g (filter_map f (take i xs))
    → so ++ option_to_list (option_map g (f x)) ≡ start ++ map g (filter_map f (take (i + 1) xs))
asked_more f g xs i x start so lt is at =
    ap (λ zs. zs ++ option_to_list (option_map g (f x))) at
    ∙ append_assoc start (map g (filter_map f (take i xs))) (option_to_list (option_map g (f x)))
    ∙ ap (λ zs. start ++ (map g (filter_map f (take i xs)) ++ zs))
    (sym (mapped_one g (f x)) ∙ ap (map g) (sym (passed_one f x (f x) refl)))
    ∙ ap (λ zs. start ++ zs) (sym (map-append g (filter_map f (take i xs)) (filter_map f (x ∷ []))))
    ∙ ap (λ ys. start ++ map g ys) (sym (filter_map-append f (take i xs) (x ∷ [])))
    ∙ ap (λ ys. start ++ map g (filter_map f ys)) (sym (one_more xs i x lt is))

-- four lists one behind the other, each mapped
pub gathered : {Y Z : Type 0} (g : Y → Z) (a b c d : List Y)
    → ((map g a ++ map g b) ++ map g c) ++ map g d ≡ map g (a ++ (b ++ (c ++ d)))
gathered g a b c d =
    append_assoc (map g a ++ map g b) (map g c) (map g d)
    ∙ append_assoc (map g a) (map g b) (map g c ++ map g d)
    ∙ ap (λ zs. map g a ++ (map g b ++ zs)) (sym (map-append g c d))
    ∙ ap (λ zs. map g a ++ zs) (sym (map-append g b (c ++ d)))
    ∙ sym (map-append g a (b ++ (c ++ d)))
