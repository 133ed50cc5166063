-- Lists with one more at the end.
use Rattle.std.proofs.Common.{◌≡◌, ℕ, Bool, true, false, ◌&&◌, not, List, [], ◌∷◌, ◌++◌, map, nat_eq, refl, ap, ◌∙◌}
use Rattle.std.specs.Prelude.{◌||◌}
use Rattle.std.specs.List.{AllByRecursion, IsDistinct, list_any}

-- the parts of a test of two
pub both_true : (a b : Bool) → a && b ≡ true → (a ≡ true) × (b ≡ true)
both_true true b e = (refl, e)
both_true false b e = absurd cc

pub true_both : (a b : Bool) → a ≡ true → b ≡ true → a && b ≡ true
true_both true b e h = h
true_both false b e h = absurd cc

either_false : (a b : Bool) → (a || b) ≡ false → (a ≡ false) × (b ≡ false)
either_false true b e = absurd cc
either_false false b e = (refl, e)

pub not_true : (a : Bool) → not a ≡ true → a ≡ false
not_true true e = absurd cc
not_true false e = refl

pub each-push : {X : Type 0} (P : X → Type 0) (xs : List X) (x : X) → AllByRecursion P xs → P x
    → AllByRecursion P (xs ++ x ∷ [])
each-push P [] x h p = (p, tt)
each-push P (y ∷ ys) x h p = (h.0, each-push P ys x h.1 p)

pub each-at : {X : Type 0} (P : X → Type 0) (xs : List X) (x : X) (rest : List X) → AllByRecursion P (xs ++ x ∷ rest)
    → P x
each-at P [] x rest h = h.0
each-at P (y ∷ ys) x rest h = each-at P ys x rest h.1

module _ {X : Type 0} (f : X → ℕ) where
  each-map-push : (P : ℕ → Type 0) (xs : List X) (x : X) → AllByRecursion P (map f xs) → P (f x)
      → AllByRecursion P (map f (xs ++ x ∷ []))
  each-map-push P [] x h p = (p, tt)
  each-map-push P (y ∷ ys) x h p = (h.0, each-map-push P ys x h.1 p)

  each-map-at : (P : ℕ → Type 0) (xs : List X) (x : X) (rest : List X) → AllByRecursion P (map f (xs ++ x ∷ rest))
      → P (f x)
  each-map-at P [] x rest h = h.0
  each-map-at P (y ∷ ys) x rest h = each-map-at P ys x rest h.1

  -- a number that no row has is one more
  pub distinct-push : (xs : List X) (x : X) → IsDistinct nat_eq (map f xs)
      → list_any (λ y. nat_eq (f y) (f x)) xs ≡ false → IsDistinct nat_eq (map f (xs ++ x ∷ []))
  unfolding IsDistinct
  distinct-push [] x h e = (tt, tt)
  distinct-push (y ∷ ys) x h e =
      let apart = either_false (nat_eq (f y) (f x)) (list_any (λ z. nat_eq (f z) (f x)) ys) e in
      (each-map-push (λ n. nat_eq (f y) n ≡ false) ys x h.0 apart.0, distinct-push ys x h.1 apart.1)

  -- and one that differs from all is that of no row before it
  pub distinct-fresh : (xs : List X) (x : X) (rest : List X) → IsDistinct nat_eq (map f (xs ++ x ∷ rest))
      → list_any (λ y. nat_eq (f y) (f x)) xs ≡ false
  unfolding IsDistinct
  distinct-fresh [] x rest h = refl
  distinct-fresh (y ∷ ys) x rest h =
      ap (λ b. b || list_any (λ z. nat_eq (f z) (f x)) ys) (each-map-at (λ n. nat_eq (f y) n ≡ false) ys x rest h.0)
      ∙ distinct-fresh ys x rest h.1
