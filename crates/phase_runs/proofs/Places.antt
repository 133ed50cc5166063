-- One element of a list is set, or one more comes behind it.
use Rattle.std.proofs.Common.{◌≡◌, ◌≢◌, ℕ, zero, suc, ◌<◌, List, [], ◌∷◌, ◌++◌, length, set, Option, Some, refl, ap, arith}
use Rattle.std.specs.List.{slice_get}

pub at_set : {X : Type 0} (xs : List X) (i : ℕ) (x : X) → i < length xs → slice_get (set xs i x) i ≡ Some x
at_set [] i x within = absurd (omega (arith, within))
at_set (y ∷ ys) zero x within = refl
at_set (y ∷ ys) (suc i) x within = at_set ys i x (omega (arith, within))

pub beside_set : {X : Type 0} (xs : List X) (i j : ℕ) (x : X) → j ≢ i → slice_get (set xs i x) j ≡ slice_get xs j
beside_set [] i j x ne = refl
beside_set (y ∷ ys) zero zero x ne = absurd (ne refl)
beside_set (y ∷ ys) zero (suc j) x ne = refl
beside_set (y ∷ ys) (suc i) zero x ne = refl
beside_set (y ∷ ys) (suc i) (suc j) x ne = beside_set ys i j x (λ is. ne (ap suc is))

pub before_last : {X : Type 0} (xs : List X) (j : ℕ) (x p : X) → j < length xs → slice_get (xs ++ x ∷ []) j ≡ Some p
    → slice_get xs j ≡ Some p
before_last [] j x p within is = absurd (omega (arith, within))
before_last (y ∷ ys) zero x p within is = is
before_last (y ∷ ys) (suc j) x p within is = before_last ys j x p (omega (arith, within)) is

pub at_last : {X : Type 0} (xs : List X) (j : ℕ) (x p : X) → j ≡ length xs → slice_get (xs ++ x ∷ []) j ≡ Some p → x ≡ p
at_last [] zero x p is has = cc (has)
at_last [] (suc j) x p is has = absurd (omega (arith, is))
at_last (y ∷ ys) zero x p is has = absurd (omega (arith, is))
at_last (y ∷ ys) (suc j) x p is has = at_last ys j x p (omega (arith, is)) has

pub one_of : {X : Type 0} (o : Option X) (x y : X) → o ≡ Some x → o ≡ Some y → x ≡ y
one_of o x y p q = cc (p, q)
