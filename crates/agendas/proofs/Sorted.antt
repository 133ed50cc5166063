-- Keys that rise can be searched.
use Rattle.std.proofs.Common.{◌≡◌, ℕ, zero, suc, ◌+◌, ◌<◌, List, [], ◌∷◌, length, get_or, ap, ◌∙◌, false, arith}
use Rattle.std.specs.declared.cmp.Ordering.{Ordering}
use Rattle.std.specs.declared.cmp.Ordering.TheVariants.{Less}
use Rattle.std.specs.List.Sorted.{IsNonDecreasingBy, IsSortedBy}
use Rattle.std.specs.Ordering.{is_lt, ordering_index, ordering_reverse}
use Rattle.std.proofs.lemmas.List.Elements.{All-get_or}
use Rattle.std.proofs.lemmas.List.Sorted.{searchable_from_sorted}
use Rattle.row_tables.specs.Table.{IsKeyOrder, IsRising}
use Rattle.row_tables.proofs.Public.{below_rest, IsRising-tail, All-above}

module _ {K : Type 0} (R : K → K → Ordering) (o : IsKeyOrder R) where
  sorted_at : (xs : List K) → IsRising R (λ k. k) xs → (k : ℕ) (d : K) → k + 1 < length xs
      → is_lt (R (get_or xs (k + 1) d) (get_or xs k d)) ≡ false
  sorted_at [] h k d lt = absurd (omega arith)
  sorted_at (x ∷ xs) h zero d lt =
      let less : R x (get_or xs 0 d) ≡ Less = All-get_or (λ y. R x y ≡ Less) xs 0 d (omega arith)
      (All-above R (λ k. k) x xs (below_rest R (λ k. k) x xs h)) in
      ap is_lt (o.total.antisymm (get_or xs 0 d) x ∙ ap ordering_reverse less)
  sorted_at (x ∷ xs) h (suc k) d lt =
      let e : suc k + 1 ≡ suc (k + 1) = omega arith in
      rw e (sorted_at xs (IsRising-tail R (λ k. k) x xs h) k d (omega arith))

  -- a binary search for a key meets answers that rise
  pub searchable : (q : K) (xs : List K) → IsRising R (λ k. k) xs
      → IsNonDecreasingBy (λ y. ordering_index (R y q)) xs
  searchable q xs h =
      let sorted : IsSortedBy (λ a b. is_lt (R a b)) xs = λ k d low lt. sorted_at xs h k d lt in
      searchable_from_sorted o.total (λ k. k) xs q sorted
