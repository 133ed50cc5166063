-- Rows with their keys, in the order of these.
use Rattle.std.proofs.Common.{◌≡◌, List, [], ◌∷◌, map, refl, sym, ap, ◌∙◌}
use Rattle.std.specs.BTreeMap.{insert_entry}
use Rattle.std.specs.FinMap.{IsAntisymmetric}
use Rattle.std.specs.FinMap.Entries.{by_order}
use Rattle.std.specs.Ordering.{match_ordering}
use Rattle.std.specs.declared.cmp.Ordering.{Ordering}
use Rattle.std.specs.declared.cmp.Ordering.TheVariants.{Less, Equal, Greater}
use Rattle.row_tables.specs.Table.{put_row, table}

module _ {K X : Type 0} (R : K → K → Ordering) (exact : IsAntisymmetric R) where
  -- an entry goes into a map as a row into a table
  pub put-from_insert : (k : K) (x : X) (es : List (K × X))
      → insert_entry R es k x ≡ put_row R (λ (p : K × X). p.0) (k, x) es
  put-from_insert k x [] = refl
  put-from_insert k x (e ∷ es) =
      elim (R k e.0) as (λ o. R k e.0 ≡ o → match_ordering o ((k, x) ∷ e ∷ es) ((e.0, x) ∷ es)
      (e ∷ insert_entry R es k x) ≡ by_order o ((k, x) ∷ e ∷ es) ((k, x) ∷ es)
      (e ∷ put_row R (λ (p : K × X). p.0) (k, x) es)) [
        | Less ↦ λ p. refl
        | Equal ↦ λ p. λ i. (sym (exact k e.0 p) i, x) ∷ es
        | Greater ↦ λ p. ap (λ r. e ∷ r) (put-from_insert k x es)
      ] refl

module _ {K X : Type 0} (R : K → K → Ordering) (key : X → K) where
  -- rows beside their keys are ordered as the rows are
  put_keyed : (x : X) (xs : List X) → put_row R (λ (p : K × X). p.0) (key x, x) (map (λ y. (key y, y)) xs)
      ≡ map (λ y. (key y, y)) (put_row R key x xs)
  put_keyed x [] = refl
  put_keyed x (y ∷ ys) =
      elim (R (key x) (key y)) as (λ o. by_order o ((key x, x) ∷ (key y, y) ∷ map (λ z. (key z, z)) ys)
      ((key x, x) ∷ map (λ z. (key z, z)) ys) ((key y, y)
      ∷ put_row R (λ (p : K × X). p.0) (key x, x) (map (λ z. (key z, z)) ys))
      ≡ map (λ z. (key z, z)) (by_order o (x ∷ y ∷ ys) (x ∷ ys) (y ∷ put_row R key x ys))) [
        | Less ↦ refl
        | Equal ↦ refl
        | Greater ↦ ap (λ r. (key y, y) ∷ r) (put_keyed x ys)
      ]

  table_keyed : (xs : List X) → table R (λ (p : K × X). p.0) (map (λ y. (key y, y)) xs)
      ≡ map (λ y. (key y, y)) (table R key xs)
  table_keyed [] = refl
  table_keyed (x ∷ xs) = ap (put_row R (λ (p : K × X). p.0) (key x, x)) (table_keyed xs) ∙ put_keyed x (table R key xs)

  without_keys : (xs : List X) → map (λ (p : K × X). p.1) (map (λ y. (key y, y)) xs) ≡ xs
  without_keys [] = refl
  without_keys (x ∷ xs) = ap (λ r. x ∷ r) (without_keys xs)

  -- so their rows are the table
  pub rows-of_table : (xs : List X) → map (λ (p : K × X). p.1) (table R (λ (p : K × X). p.0) (map (λ y. (key y, y)) xs))
      ≡ table R key xs
  rows-of_table xs = ap (map (λ (p : K × X). p.1)) (table_keyed xs) ∙ without_keys (table R key xs)
