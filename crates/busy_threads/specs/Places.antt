-- A part of a list, which begins at some place of the whole, and what calls do to it.
use Rattle.std.specs.Prelude.{◌≡◌, ℕ, ◌+◌, ◌<◌, ◌^◌, List, length, slice_index_or}

-- there is a place in it, the numbers of its places fit, and P holds of each place with its number
pub record AreReady {X : Type 0} (P : ℕ → X → Type 0) (base : ℕ) (xs : List X) : Type 0 where
  pub some : 0 < length xs
  pub room : base + length xs < 2 ^ 64
  pub each : (k : ℕ) (d : X) → k < length xs → P (base + k) (slice_index_or xs k d)

-- R holds of each place with its number, before and after
pub record AreChanged {X : Type 0} (R : ℕ → X → X → Type 0) (base : ℕ) (xs ys : List X) : Type 0 where
  pub length_is : length ys ≡ length xs
  pub each : (k : ℕ) (d : X) → k < length xs → R (base + k) (slice_index_or xs k d) (slice_index_or ys k d)
