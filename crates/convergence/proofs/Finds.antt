-- What is found in a list by a test.
use Rattle.std.proofs.Common.{◌≡◌, ℕ, zero, suc, ◌+◌, ◌<◌, Bool, true, false, cond, Option, List, [], ◌∷◌, ◌++◌, length, take, drop, get_or, Some, None, find, refl, sym, ap, ◌∙◌, arith, take-append-drop}
use Rattle.std.specs.List.{Contains}
use Rattle.std.specs.Option.{option_or}
use Rattle.std.proofs.lemmas.List.Folds.{find-append}
use Rattle.convergence.proofs.Gathers.{Contains-cons}
use Rattle.convergence.proofs.Lists.{one_more}

module _ {X : Type 0} (p : X → Bool) where
  -- what is found stands in the list, and passes
  pub find-passes : (xs : List X) (x : X) → find p xs ≡ Some x → Contains xs x × (p x ≡ true)
  find-passes [] x e = absurd cc
  find-passes (y ∷ ys) x e =
      elim (p y) as (λ b. p y ≡ b → cond b (Some y) (find p ys) ≡ Some x → Contains (y ∷ ys) x × (p x ≡ true)) [
        | true ↦ λ is at. let one : y ≡ x = cc in ((0, omega arith, one), ap p (sym one) ∙ is)
        | false ↦ λ is at. let rest = find-passes ys x at in (Contains-cons x y ys rest.0, rest.1)
      ] refl e

  -- where nothing is found, none passes
  pub find-fails : (xs : List X) (x : X) → find p xs ≡ None → Contains xs x → p x ≡ false
  find-fails [] x e (k, lt, at) = absurd (omega arith)
  find-fails (y ∷ ys) x e (zero, lt, at) =
      elim (p y) as (λ b. p y ≡ b → cond b (Some y) (find p ys) ≡ None → p x ≡ false) [
        | true ↦ λ is none. absurd cc
        | false ↦ λ is none. ap p (sym at) ∙ is
      ] refl e
  find-fails (y ∷ ys) x e (suc k, lt, at) =
      elim (p y) as (λ b. cond b (Some y) (find p ys) ≡ None → p x ≡ false) [
        | true ↦ λ none. absurd cc
        | false ↦ λ none. find-fails ys x none (k, omega arith, at)
      ] e

  -- what passes leads to something that is found
  pub find-some : (xs : List X) (x : X) → Contains xs x → p x ≡ true → (y : X) × (find p xs ≡ Some y)
  find-some xs x inside passes =
      elim (find p xs) as (λ (o : Option X). find p xs ≡ o → (y : X) × (o ≡ Some y)) [
        | None ↦ λ none. let fails : p x ≡ false = find-fails xs x none inside in absurd cc
        | (Some y) ↦ λ is. (y, refl)
      ] refl

  -- one item more that fails
  pub find-more : (xs : List X) (i : ℕ) (x : X) → i < length xs → x ≡ get_or xs i x → find p (take i xs) ≡ None
      → p x ≡ false → find p (take (i + 1) xs) ≡ None
  find-more xs i x lt is none fails =
      ap (find p) (one_more xs i x lt is) ∙ find-append p (take i xs) (x ∷ [])
      ∙ ap (λ (o : Option X). option_or o (cond (p x) (Some x) None)) none ∙ ap
      (λ (b : Bool). option_or None (cond b (Some x) None)) fails

  -- the first item that passes
  pub find-here : (xs : List X) (i : ℕ) (x : X) → i < length xs → x ≡ get_or xs i x → find p (take i xs) ≡ None
      → p x ≡ true → Some x ≡ find p xs
  find-here xs i x lt is none passes =
      sym (ap (find p) (sym (take-append-drop (i + 1) xs)) ∙ find-append p (take (i + 1) xs) (drop (i + 1) xs)
      ∙ ap (λ (o : Option X). option_or o (find p (drop (i + 1) xs)))
      (ap (find p) (one_more xs i x lt is) ∙ find-append p (take i xs) (x ∷ [])
      ∙ ap (λ (o : Option X). option_or o (cond (p x) (Some x) None)) none ∙ ap
      (λ (b : Bool). option_or None (cond b (Some x) None)) passes))
