-- The order of names.
use Rattle.std.specs.Prelude.{ℕ, List}
use Rattle.std.specs.Cmp.Lexicographic.{slice_cmp}
use Rattle.std.specs.Ordering.{nat_cmp}
use Rattle.std.specs.declared.cmp.Ordering.{Ordering}

-- names by their bytes: the first two that differ decide, else the lengths
abbrev pub name_order : List ℕ → List ℕ → Ordering
name_order = slice_cmp nat_cmp
