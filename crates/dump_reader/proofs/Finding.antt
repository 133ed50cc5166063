-- A search for a byte finds the first place at which it stands.
use Rattle.std.proofs.Common.{◌≡◌, ℕ, ◌<◌, Bool, true, false, List, length, refl, arith, position, Option, Some, None, ltb}
use Rattle.std.proofs.lemmas.List.Sums.{position_or_len_is}
use Rattle.std.specs.List.{position_or_len}
use Rattle.memchr.specs.Find.{IsFirstByte}

-- a test that can't pass fails
fails : (b : Bool) → (b ≡ true → ⊥) → b ≡ false
fails true fault = absurd (fault refl)
fails false fault = refl

-- a place is less than the length
below : (n m : ℕ) → n < m → ltb n m ≡ true
below n m less = grind arith

not_below : (n : ℕ) → ltb n n ≡ false
not_below n = grind arith

-- what a search finds is where the test first passes
pub first-position : (test : ℕ → Bool) (bytes : List ℕ) (found : Option ℕ) → IsFirstByte test bytes found
    → found ≡ position test bytes
first-position test bytes None nowhere =
    let at : position_or_len test bytes ≡ length bytes = position_or_len_is test bytes (length bytes) 0 (omega arith)
    (λ k less. fails _ (nowhere k (omega arith) less)) (λ less. absurd (omega arith)) in
    rw (at, not_below (length bytes)) refl
first-position test bytes (Some n) first =
    let at : position_or_len test bytes ≡ n = position_or_len_is test bytes n 0 (omega (arith, first.0.high))
    (λ k less. fails _ (first.0.before k (omega arith) less)) (λ less. first.1) in
    rw (at, below n (length bytes) first.0.high) refl
