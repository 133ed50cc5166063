-- Rows in the order of their keys, put one after the other.
use Rattle.std.proofs.Common.{◌≡◌, ℕ, ◌<◌, zero, suc, List, [], ◌∷◌, length, take, get_or, sym, ap, ◌∙◌, arith}
use Rattle.std.specs.declared.cmp.Ordering.{Ordering}
use Rattle.std.specs.declared.cmp.Ordering.TheVariants.{Less, Greater}
use Rattle.std.specs.FinMap.Entries.{by_order}
use Rattle.std.specs.List.{Contains}
use Rattle.std.specs.Ordering.{ordering_reverse}
use Rattle.std.proofs.lemmas.List.Elements.{All-contains}
use Rattle.row_tables.specs.Table.{IsKeyOrder, put_row, IsRising}
use Rattle.row_tables.proofs.Public.{All-above, below_rest, IsRising-tail}

module _ {K X : Type 0} (R : K → K → Ordering) (key : X → K) (o : IsKeyOrder R) where
  rows_before : (x : X) (xs : List X) (i : ℕ) → IsRising R key xs → i < length xs → x ≡ get_or xs i x
      → put_row R key x (take i xs) ≡ take (suc i) xs
  rows_before x [] i h lt at = absurd (omega arith)
  rows_before x (y ∷ ys) zero h lt at = ap (λ z. z ∷ []) at
  rows_before x (y ∷ ys) (suc i) h lt at =
      let inside : Contains ys x = (i, omega arith, sym at) in
      let below : R (key y) (key x) ≡ Less = All-contains (λ z. R (key y) (key z) ≡ Less) ys x
      (All-above R key (key y) ys (below_rest R key y ys h)) inside in
      let after : R (key x) (key y) ≡ Greater = o.total.antisymm (key x) (key y) ∙ ap ordering_reverse below in
      ap (λ c. by_order c (x ∷ y ∷ take i ys) (x ∷ take i ys) (y ∷ put_row R key x (take i ys))) after
      ∙ ap (λ zs. y ∷ zs) (rows_before x ys i (IsRising-tail R key y ys h) (omega arith) at)

  -- the next row is put behind those before it
  pub put_row-next : (x : X) (xs : List X) (i n : ℕ) → IsRising R key xs → i < length xs → n ≡ suc i → x ≡ get_or xs i x
      → put_row R key x (take i xs) ≡ take n xs
  put_row-next x xs i n h lt next at = rows_before x xs i h lt at ∙ ap (λ m. take m xs) (sym next)
