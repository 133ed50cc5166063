-- A change of rows that leaves their keys keeps them rising.
use Rattle.std.proofs.Common.{◌≡◌, T, List, [], ◌∷◌, map, refl, sym, ap, subst, ◌∙◌, ◌&&◌}
use Rattle.std.specs.declared.cmp.Ordering.{Ordering}
use Rattle.std.specs.FinMap.Entries.{is_sorted, below_all}
use Rattle.std.specs.Ordering.{is_lt}
use Rattle.row_tables.specs.Table.{keyed, IsRising}

module _ {K X : Type 0} (R : K → K → Ordering) (key : X → K) where
  below_all-map : (g : X → X) → ((x : X) → key (g x) ≡ key x) → (k : K) (xs : List X)
      → below_all R k (keyed R key (map g xs)) ≡ below_all R k (keyed R key xs)
  below_all-map g same k [] = refl
  below_all-map g same k (x ∷ xs) =
      ap (λ q. is_lt (R k q) && below_all R k (keyed R key (map g xs))) (same x)
      ∙ ap (λ b. is_lt (R k (key x)) && b) (below_all-map g same k xs)

  is_sorted-map : (g : X → X) → ((x : X) → key (g x) ≡ key x) → (xs : List X)
      → is_sorted R (keyed R key (map g xs)) ≡ is_sorted R (keyed R key xs)
  is_sorted-map g same [] = refl
  is_sorted-map g same (x ∷ xs) =
      ap (λ q. below_all R q (keyed R key (map g xs)) && is_sorted R (keyed R key (map g xs))) (same x)
      ∙ ap (λ b. b && is_sorted R (keyed R key (map g xs))) (below_all-map g same (key x) xs)
      ∙ ap (λ b. below_all R (key x) (keyed R key xs) && b) (is_sorted-map g same xs)

  -- rows that keep their keys keep rising
  pub IsRising-map : (g : X → X) → ((x : X) → key (g x) ≡ key x) → (xs : List X) → IsRising R key xs
      → IsRising R key (map g xs)
  IsRising-map g same xs h = subst T (sym (is_sorted-map g same xs)) h
