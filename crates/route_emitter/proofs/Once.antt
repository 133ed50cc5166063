-- What a sort leaves of entries once repeats are dropped.
use Rattle.std.proofs.Common.{◌≡◌, Bool, T, List, [], ◌∷◌, refl, sym, ap, subst, ◌∙◌}
use Rattle.std.specs.declared.cmp.Ordering.{Ordering}
use Rattle.std.specs.declared.cmp.Ordering.TheVariants.{Less}
use Rattle.std.specs.Cmp.{eq_by_cmp_equiv}
use Rattle.std.specs.FinMap.Entries.{below_all, is_sorted}
use Rattle.std.specs.List.{AllByRecursion, dedup}
use Rattle.std.specs.List.Sorted.{IsPermutation, IsSorted, IsStrictlySortedBy}
use Rattle.std.specs.Ordering.{is_lt, eq_by_cmp}
use Rattle.std.proofs.lemmas.List.Kept.{IsStrictlySortedBy-dedup, Contains-dedup, Contains-from_dedup}
use Rattle.std.proofs.lemmas.List.Sorted.{IsPermutation-sym, Contains-permutation}
use Rattle.row_tables.specs.Table.{IsKeyOrder, keyed, IsRising, table}
use Rattle.row_tables.proofs.Public.{same_from_tie, both_parts, IsRising-table}
use Rattle.route_emitter.proofs.Members.{same_members, Contains-table, Contains-from_table}

module _ {K : Type 0} (R : K → K → Ordering) where
  below_all-from_each : (k : K) (xs : List K) → AllByRecursion (λ x. R k x ≡ Less) xs
      → T (below_all R k (keyed R (λ p. p) xs))
  below_all-from_each k [] h = tt
  below_all-from_each k (x ∷ xs) h =
      both_parts (is_lt (R k x)) (below_all R k (keyed R (λ p. p) xs)) (subst (λ c. T (is_lt c)) (sym h.0) tt)
      (below_all-from_each k xs h.1)

  -- keys in strict order are a table
  pub IsRising-from_strict : (xs : List K) → IsStrictlySortedBy R xs → IsRising R (λ p. p) xs
  unfolding IsStrictlySortedBy
  IsRising-from_strict [] h = tt
  IsRising-from_strict (x ∷ xs) h =
      both_parts (below_all R x (keyed R (λ p. p) xs)) (is_sorted R (keyed R (λ p. p) xs))
      (below_all-from_each x xs h.0) (IsRising-from_strict xs h.1)

  -- the sorted keys without repeats are the table of them
  pub table-from_dedup : (E : K → K → Bool) → IsKeyOrder R → ((x y : K) → E x y ≡ eq_by_cmp R x y) → (xs ys : List K)
      → IsPermutation xs ys → IsSorted R ys → dedup E ys ≡ table R (λ p. p) xs
  table-from_dedup E o ties xs ys moved sorted =
      let tests : E ≡ eq_by_cmp R = λ i x y. ties x y i in
      let once = dedup (eq_by_cmp R) ys in
      let rises : IsRising R (λ p. p) once = IsRising-from_strict once
      (IsStrictlySortedBy-dedup o.total (λ x y. refl) ys sorted) in
      ap (λ e. dedup e ys) tests
      ∙ same_members R (λ p. p) o once (table R (λ p. p) xs) rises (IsRising-table R (λ p. p) o xs)
      (λ q h. Contains-table R o xs q (Contains-permutation ys xs q (IsPermutation-sym xs ys moved)
      (Contains-from_dedup (eq_by_cmp R) ys q h)))
      (λ q h. Contains-dedup (eq_by_cmp_equiv o.total) (same_from_tie R o) ys q
      (Contains-permutation xs ys q moved (Contains-from_table R o xs q h)))
