-- Numbers in some order.
use Rattle.std.specs.Prelude.{ℕ, List, length}
use Rattle.std.specs.List.{range_with_len}
use Rattle.std.specs.List.Sorted.{IsPermutation}

-- numbers in some order, and how many there is room for
pub record Ordered : Type 0 where
  pub numbers : List ℕ
  pub room : ℕ

-- they are the numbers below a count, each once
abbrev pub AreBelow : ℕ → List ℕ → Type 0
AreBelow count numbers = IsPermutation (range_with_len 0 count) numbers

-- they are the numbers below theirs
abbrev pub IsOrder : List ℕ → Type 0
IsOrder numbers = AreBelow (length numbers) numbers
