-- A table is the list of its rows in the order of their keys, which strictly rise.
-- So two tables with the same rows are one value.
use Rattle.std.specs.Prelude.{cond, T, List, [], ◌∷◌, map, Option, Some, None}
use Rattle.std.specs.declared.cmp.Ordering.{Ordering}
use Rattle.std.specs.Cmp.{IsTotalOrder}
use Rattle.std.specs.FinMap.{IsAntisymmetric}
use Rattle.std.specs.FinMap.Entries.{by_order, is_sorted}
use Rattle.std.specs.Ordering.{eq_by_cmp}

-- keys can be ordered by it: any two compare, and only equal ones tie
pub record IsKeyOrder {K : Type 0} (R : K → K → Ordering) : Type 0 where
  pub total : IsTotalOrder R
  pub exact : IsAntisymmetric R

module _ {K X : Type 0} (R : K → K → Ordering) (key : X → K) where
  -- the row at a key
  abbrev pub find_row : K → List X → Option X
  find_row q [] = None
  find_row q (x ∷ xs) = cond (eq_by_cmp R q (key x)) (Some x) (find_row q xs)

  -- the table with the row in its place, and no other row at its key
  abbrev pub put_row : X → List X → List X
  put_row r [] = r ∷ []
  put_row r (x ∷ xs) = by_order (R (key r) (key x)) (r ∷ x ∷ xs) (r ∷ xs) (x ∷ put_row r xs)

  -- the table without a row at that key
  abbrev pub without_row : K → List X → List X
  without_row k [] = []
  without_row k (x ∷ xs) = cond (eq_by_cmp R k (key x)) (without_row k xs) (x ∷ without_row k xs)

  -- each row beside its key
  abbrev pub keyed : List X → List (K × X)
  keyed xs = map (λ x. (key x, x)) xs

  -- each key is below those after it
  abbrev pub IsRising : List X → Type 0
  IsRising xs = T (is_sorted R (keyed xs))

  -- the rows, each in its place
  abbrev pub table : List X → List X
  table [] = []
  table (x ∷ xs) = put_row x (table xs)
