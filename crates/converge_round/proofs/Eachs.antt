-- Steps one after another.
use Rattle.std.proofs.Common.{◌≡◌, ℕ, ◌+◌, ◌<◌, List, [], ◌∷◌, ◌++◌, length, take, get_or, refl, sym, ap, subst, ◌∙◌}
use Rattle.std.proofs.lemmas.List.{take_more}
use Rattle.converge_round.specs.Each.{Each}

pub each-append : {X S : Type 0} (Step : X → S → S → Type 0) (xs ys : List X) (s m t : S)
    → Each Step xs s m → Each Step ys m t → Each Step (xs ++ ys) s t
each-append Step [] ys s m t f g = subst (λ x. Each Step ys x t) f g
each-append Step (x ∷ xs) ys s m t f g = (f.0, f.1, each-append Step xs ys f.0 m t f.2 g)

-- one step more
pub each-more : {X S : Type 0} (Step : X → S → S → Type 0) (xs : List X) (k : ℕ) (x : X) (s m t : S)
    → k < length xs → x ≡ get_or xs k x → Each Step (take k xs) s m → Step x m t → Each Step (take (k + 1) xs) s t
each-more Step xs k x s m t within read f h =
    let more : take (k + 1) xs ≡ take k xs ++ x ∷ [] = take_more xs k x within ∙ ap (λ y. take k xs ++ y ∷ [])
    (sym read) in
    subst (λ ys. Each Step ys s t) (sym more) (each-append Step (take k xs) (x ∷ []) s m t f (t, h, refl))

-- what each step keeps, and goes on to keep
pub each-keeps : {X S : Type 0} (Step : X → S → S → Type 0) (R : S → S → Type 0) (xs : List X) (s t : S)
    → ((a : S) → R a a) → ((a b c : S) → R a b → R b c → R a c) → ((x : X) (a b : S) → Step x a b → R a b)
    → Each Step xs s t → R s t
each-keeps Step R [] s t same goes_on one f = subst (R s) (sym f) (same s)
each-keeps Step R (x ∷ xs) s t same goes_on one f =
    goes_on s f.0 t (one x s f.0 f.1) (each-keeps Step R xs f.0 t same goes_on one f.2)

-- one step more, by a caller of that number
pub each-more-by : {X S : Type 0} (Step : ℕ → X → S → S → Type 0) (by by' : ℕ) (xs : List X) (k : ℕ) (x : X) (s m t : S)
    → by' ≡ by
    → k < length xs → x ≡ get_or xs k x → Each (Step by) (take k xs) s m → Step by' x m t
    → Each (Step by) (take (k + 1) xs) s t
each-more-by Step by by' xs k x s m t same within read f h =
    each-more (Step by) xs k x s m t within read f (subst (λ n. Step n x m t) same h)
