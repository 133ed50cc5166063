-- What a plain scan of a table comes to.
use Rattle.std.proofs.Common.{◌≡◌, cond, List, [], ◌∷◌, Option, Some, refl, ap}
use Rattle.std.specs.List.{find}
use Rattle.std.specs.Ordering.{eq_by_cmp}
use Rattle.std.specs.declared.cmp.Ordering.{Ordering}
use Rattle.row_tables.specs.Table.{find_row}

module _ {K X : Type 0} (R : K → K → Ordering) (key : X → K) where
  pub find_row-find : (q : K) (xs : List X) → find (λ x. eq_by_cmp R q (key x)) xs ≡ find_row R key q xs
  find_row-find q [] = refl
  find_row-find q (x ∷ xs) = ap (λ (o : Option X). cond (eq_by_cmp R q (key x)) (Some x) o) (find_row-find q xs)
