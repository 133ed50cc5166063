-- Rows that are read by their numbers, one behind the other.
use Rattle.std.proofs.Common.{◌≡◌, ℕ, zero, suc, ◌+◌, ◌<◌, List, [], ◌∷◌, ◌++◌, length, take, drop, get_or, slice_get, Some, refl, sym, ap, ◌∙◌, arith}
use Rattle.std.proofs.lemmas.List.{length-map}
use Rattle.bbs_index.specs.Shelf.{AreNumbered}

there_on : {X : Type 0} (numbered : List X) (order : List ℕ) (rows : List X) (i : ℕ) → AreNumbered numbered order rows
    → i < length order
    → (x : X) × (slice_get numbered (get_or order i 0) ≡ Some x) × (take (suc i) rows ≡ take i rows ++ x ∷ [])
there_on numbered [] rows i are lt = absurd (omega (arith, lt))
there_on numbered (m ∷ ms) [] i are lt = absurd (cc (are))
there_on numbered (m ∷ ms) (x ∷ xs) zero are lt = (x, cc (are), refl)
there_on {X} numbered (m ∷ ms) (x ∷ xs) (suc i) are lt =
    let rest = there_on numbered ms xs i (ap (drop 1) are) (omega (arith, lt)) in
    (rest.0, rest.1, ap (λ (ys : List X). x ∷ ys) rest.2)

-- the row of the next number is the next row
pub numbered_there : {X : Type 0} (numbered : List X) (order : List ℕ) (rows : List X) (i : ℕ)
    → AreNumbered numbered order rows → i < length order
    → (x : X) × (slice_get numbered (get_or order i 0) ≡ Some x) × (take (i + 1) rows ≡ take i rows ++ x ∷ [])
numbered_there numbered order rows i are lt =
    let on = there_on numbered order rows i are lt in
    let next : i + 1 ≡ suc i = omega arith in
    (on.0, on.1, ap (λ n. take n rows) next ∙ on.2)

pub numbered_length : {X : Type 0} (numbered : List X) (order : List ℕ) (rows : List X)
    → AreNumbered numbered order rows → length order ≡ length rows
numbered_length {X} numbered order rows are = sym (length-map order (slice_get numbered)) ∙ ap length are ∙ length-map
    rows (λ (x : X). Some x)
