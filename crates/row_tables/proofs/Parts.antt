-- A table with a row at its end, and what a filter leaves of it.
use Rattle.std.proofs.Common.{◌≡◌, Bool, true, false, ◌&&◌, cond, T, List, [], ◌∷◌, ◌++◌, filter, refl, ap, subst, ◌∙◌}
use Rattle.std.specs.declared.cmp.Ordering.{Ordering}
use Rattle.std.specs.declared.cmp.Ordering.TheVariants.{Less, Greater}
use Rattle.std.specs.FinMap.Entries.{by_order, below_all, is_sorted}
use Rattle.std.specs.List.{All}
use Rattle.std.specs.Ordering.{is_lt, ordering_reverse}
use Rattle.std.proofs.lemmas.List.Elements.{All-head, All-tail}
use Rattle.row_tables.specs.Table.{IsKeyOrder, put_row, keyed, IsRising}
use Rattle.row_tables.proofs.Rising.{first_of_both, second_of_both, below_rest, IsRising-tail, IsRising-put_row}

pub both_parts : (a b : Bool) → T a → T b → T (a && b)
both_parts true b g h = h
both_parts false b g h = g

module _ {K X : Type 0} (R : K → K → Ordering) (key : X → K) where
  -- a row above all others is put at the end
  pub put_row-last : IsKeyOrder R → (r : X) (xs : List X) → All (λ x. R (key x) (key r) ≡ Less) xs
      → put_row R key r xs ≡ xs ++ r ∷ []
  put_row-last o r [] h = refl
  put_row-last o r (x ∷ xs) h =
      let below : R (key x) (key r) ≡ Less = All-head (λ x. R (key x) (key r) ≡ Less) x xs h in
      let after : R (key r) (key x) ≡ Greater = o.total.antisymm (key r) (key x) ∙ ap ordering_reverse below in
      ap (λ c. by_order c (r ∷ x ∷ xs) (r ∷ xs) (x ∷ put_row R key r xs)) after
      ∙ ap (λ ys. x ∷ ys) (put_row-last o r xs (All-tail (λ x. R (key x) (key r) ≡ Less) x xs h))

  pub IsRising-push : IsKeyOrder R → (r : X) (xs : List X) → IsRising R key xs → All (λ x. R (key x) (key r) ≡ Less) xs
      → IsRising R key (xs ++ r ∷ [])
  IsRising-push o r xs rises h = subst (IsRising R key) (put_row-last o r xs h) (IsRising-put_row R key o r xs rises)

  below_all-filter : (p : X → Bool) (k : K) (xs : List X) → T (below_all R k (keyed R key xs))
      → T (below_all R k (keyed R key (filter p xs)))
  below_all-filter p k [] h = tt
  below_all-filter p k (x ∷ xs) h =
      let first = first_of_both (is_lt (R k (key x))) (below_all R k (keyed R key xs)) h in
      let rest = below_all-filter p k xs (second_of_both (is_lt (R k (key x))) (below_all R k (keyed R key xs)) h) in
      elim (p x) as (λ b. T (below_all R k (keyed R key (cond b (x ∷ filter p xs) (filter p xs))))) [
        | true ↦ both_parts (is_lt (R k (key x))) (below_all R k (keyed R key (filter p xs))) first rest
        | false ↦ rest
      ]

  -- what a filter leaves of a table is one
  pub IsRising-filter : (p : X → Bool) (xs : List X) → IsRising R key xs → IsRising R key (filter p xs)
  IsRising-filter p [] h = tt
  IsRising-filter p (x ∷ xs) h =
      let rest = IsRising-filter p xs (IsRising-tail R key x xs h) in
      elim (p x) as (λ b. IsRising R key (cond b (x ∷ filter p xs) (filter p xs))) [
        | true ↦ both_parts (below_all R (key x) (keyed R key (filter p xs))) (is_sorted R (keyed R key (filter p xs)))
            (below_all-filter p (key x) xs (below_rest R key x xs h)) rest
        | false ↦ rest
      ]
