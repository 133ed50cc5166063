-- Keys in order, and the stretches of them on both sides of a key.
use Rattle.std.specs.Prelude.{◌≡◌, ℕ, not, false, List}
use Rattle.std.specs.List.{filter}
use Rattle.std.specs.List.Sorted.{IsPartitionPoint}
use Rattle.std.specs.Ordering.{is_lt}
use Rattle.std.specs.declared.cmp.Ordering.{Ordering}
use Rattle.std.specs.declared.cmp.Ordering.TheVariants.{Less}

-- the keys of an agenda in their order, and for how many more there is room
pub record Planned (K : Type 0) : Type 0 where
  pub keys : List K
  pub spare : ℕ

module _ {K : Type 0} (R : K → K → Ordering) where
  -- the keys before this one
  abbrev pub those_before : K → List K → List K
  those_before q keys = filter (λ k. is_lt (R k q)) keys

  -- the keys from this one on
  abbrev pub those_since : K → List K → List K
  those_since q keys = filter (λ k. not (is_lt (R k q))) keys

  -- the keys below this place are those before the key
  abbrev pub IsPlace : K → List K → ℕ → Type 0
  IsPlace q keys i = IsPartitionPoint (λ k. R k q ≡ Less) (λ k. is_lt (R k q) ≡ false) keys i
