-- Whether a name is among others.
use Rattle.std.specs.Prelude.{ℕ, nat_eq, Bool, List}
use Rattle.std.specs.List.{list_any}
use Rattle.std.specs.Cmp.Lexicographic.{pointwise}

-- the cell is one of these
abbrev pub is_among : List (List ℕ) → List ℕ → Bool
is_among names cell = list_any (λ n. pointwise nat_eq n cell) names
