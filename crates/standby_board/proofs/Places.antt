-- Places in lists, and numbers that never fall.
use Rattle.std.proofs.Common.{◌≡◌, ◌≤◌, ◌<◌, ℕ, ◌+◌, zero, suc, List, [], ◌∷◌, ◌++◌, length, slice_get, Some, refl, ap, ◌∙◌, arith}
use Rattle.std.proofs.Math.Nat.{zero-add, suc-add}
use Rattle.bbs_board.specs.Kept.{RiseBetween}

-- numbers that never fall lie between the least and the greatest
pub low_high : (low : ℕ) (marks : List ℕ) (high : ℕ) → RiseBetween low marks high → low ≤ high
low_high low [] high rising = rising
low_high low (mark ∷ marks) high rising =
    let first = rising.0 in
    let rest = low_high mark marks high rising.1 in
    omega (arith, first, rest)

-- so does the one at a place
pub record Marked (low : ℕ) (marks : List ℕ) (high place : ℕ) : Type 0 where
  pub mark : ℕ
  pub at : slice_get marks place ≡ Some mark
  pub above : low ≤ mark
  pub below : mark ≤ high

pub marked_at : (low : ℕ) (marks : List ℕ) (high place : ℕ) → RiseBetween low marks high → place < length marks
    → Marked low marks high place
marked_at low [] high place rising within = absurd (omega (arith, within))
marked_at low (mark ∷ marks) high zero rising within =
    record { mark = mark; at = refl; above = rising.0; below = low_high mark marks high rising.1 }
marked_at low (mark ∷ marks) high (suc place) rising within =
    let rest = marked_at mark marks high place rising.1 (omega (arith, within)) in
    let first = rising.0 in
    let more = rest.above in
    record { mark = rest.mark; at = rest.at; above = omega (arith, first, more); below = rest.below }

-- what stands in the first of two lists, and in the second
pub get_left : {X : Type 0} (xs ys : List X) (place : ℕ) (x : X) → slice_get xs place ≡ Some x
    → slice_get (xs ++ ys) place ≡ Some x
get_left [] ys place x is = absurd (cc)
get_left (y ∷ xs) ys zero x is = is
get_left (y ∷ xs) ys (suc place) x is = get_left xs ys place x is

pub get_right : {X : Type 0} (xs ys : List X) (place : ℕ)
    → slice_get (xs ++ ys) (length xs + place) ≡ slice_get ys place
get_right [] ys place = rw zero-add refl
get_right (x ∷ xs) ys place = rw suc-add (get_right xs ys place)

pub get_last : {X : Type 0} (xs : List X) (x : X) → slice_get (xs ++ x ∷ []) (length xs) ≡ Some x
get_last xs x =
    let same : length xs ≡ length xs + 0 = omega arith in
    ap (slice_get (xs ++ x ∷ [])) same ∙ get_right xs (x ∷ []) 0
