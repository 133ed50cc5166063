-- One step more behind others.
use Rattle.std.proofs.Common.{◌≡◌, ℕ, ◌+◌, ◌<◌, List, [], ◌∷◌, ◌++◌, length, take, get_or, refl, sym, ap, subst, ◌∙◌}
use Rattle.std.proofs.lemmas.List.{take_more}
use Rattle.converge_round.specs.Each.{Each}

module _ {X S : Type 0} (Step : X → S → S → Type 0) where
  each_last : (xs : List X) (x : X) (s m t : S) → Each Step xs s m → Step x m t → Each Step (xs ++ x ∷ []) s t
  each_last [] x s m t same step = (t, subst (λ (a : S). Step x a t) same step, refl)
  each_last (y ∷ xs) x s m t each step = (each.0, each.1, each_last xs x each.0 m t each.2 step)

  pub each_more : (xs : List X) (k : ℕ) (x : X) (s m t : S) → k < length xs → x ≡ get_or xs k x
      → Each Step (take k xs) s m → Step x m t
      → Each Step (take (k + 1) xs) s t
  each_more xs k x s m t within read each step =
      let more : take (k + 1) xs ≡ take k xs ++ x ∷ [] = take_more xs k x within ∙ ap (λ (y : X). take k xs ++ y ∷ [])
      (sym read) in
      subst (λ (ys : List X). Each Step ys s t) (sym more) (each_last (take k xs) x s m t each step)
