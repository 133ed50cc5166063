-- What a put and a removal do to a sum over the rows.
use Rattle.std.proofs.Common.{◌≡◌, ℕ, ◌+◌, true, false, cond, T, List, [], ◌∷◌, Some, refl, sym, ap, subst, arith}
use Rattle.std.specs.declared.cmp.Ordering.{Ordering}
use Rattle.std.specs.declared.cmp.Ordering.TheVariants.{Less, Equal, Greater}
use Rattle.std.specs.FinMap.Entries.{by_order, below_all}
use Rattle.std.specs.List.{sum_by}
use Rattle.std.specs.Option.{option_map_or}
use Rattle.std.specs.Ordering.{is_eq, eq_by_cmp}
use Rattle.std.proofs.lemmas.List.Sums.{sum_by-cons}
use Rattle.row_tables.specs.Table.{IsKeyOrder, find_row, put_row, without_row, keyed, IsRising}
use Rattle.row_tables.proofs.Keyed.{same_from_tie}
use Rattle.row_tables.proofs.Rising.{below_rest, IsRising-tail, find_row-below_all, find_row-below_first}

module _ {K X : Type 0} (R : K → K → Ordering) (key : X → K) (o : IsKeyOrder R) (f : X → ℕ) where
  -- the new row's number comes in place of that of the row at its key, if there is one
  pub sum_by-put_row : (r : X) (xs : List X) → IsRising R key xs
      → sum_by f (put_row R key r xs) + option_map_or f (find_row R key (key r) xs) 0 ≡ sum_by f xs + f r
  sum_by-put_row r [] h = omega arith
  sum_by-put_row r (x ∷ xs) h =
      let whole : sum_by f (x ∷ xs) ≡ f x + sum_by f xs = sum_by-cons f x xs in
      elim (R (key r) (key x)) as (λ c. R (key r) (key x) ≡ c
      → sum_by f (by_order c (r ∷ x ∷ xs) (r ∷ xs) (x ∷ put_row R key r xs)) + option_map_or f
      (cond (is_eq c) (Some x) (find_row R key (key r) xs)) 0 ≡ sum_by f (x ∷ xs) + f r) [
        | Less ↦ λ p.
            let none : option_map_or f (find_row R key (key r) xs) 0 ≡ 0 =
            ap (λ s. option_map_or f s 0) (find_row-below_first R key o (key r) x xs p (below_rest R key x xs h)) in
            let more : sum_by f (r ∷ x ∷ xs) ≡ f r + sum_by f (x ∷ xs) = sum_by-cons f r (x ∷ xs) in
            omega arith
        | Equal ↦ λ p.
            let more : sum_by f (r ∷ xs) ≡ f r + sum_by f xs = sum_by-cons f r xs in
            omega arith
        | Greater ↦ λ p.
            let more : sum_by f (x ∷ put_row R key r xs) ≡ f x + sum_by f (put_row R key r xs) =
            sum_by-cons f x (put_row R key r xs) in
            let rest : sum_by f (put_row R key r xs) + option_map_or f (find_row R key (key r) xs) 0
            ≡ sum_by f xs + f r = sum_by-put_row r xs (IsRising-tail R key x xs h) in
            omega arith
      ] refl

  -- the number of the row that is removed, if there is one, is gone
  pub sum_by-without_row : (k : K) (xs : List X) → IsRising R key xs
      → sum_by f (without_row R key k xs) + option_map_or f (find_row R key k xs) 0 ≡ sum_by f xs
  sum_by-without_row k [] h = omega arith
  sum_by-without_row k (x ∷ xs) h =
      let whole : sum_by f (x ∷ xs) ≡ f x + sum_by f xs = sum_by-cons f x xs in
      let rest : sum_by f (without_row R key k xs) + option_map_or f (find_row R key k xs) 0 ≡ sum_by f xs =
      sum_by-without_row k xs (IsRising-tail R key x xs h) in
      elim (eq_by_cmp R k (key x)) as (λ b. eq_by_cmp R k (key x) ≡ b
      → sum_by f (cond b (without_row R key k xs) (x ∷ without_row R key k xs)) + option_map_or f
      (cond b (Some x) (find_row R key k xs)) 0 ≡ sum_by f (x ∷ xs)) [
        | true ↦ λ t.
            let none : option_map_or f (find_row R key k xs) 0 ≡ 0 =
            ap (λ s. option_map_or f s 0) (find_row-below_all R key k xs
            (subst (λ q. T (below_all R q (keyed R key xs))) (sym (same_from_tie R o k (key x) t))
            (below_rest R key x xs h))) in
            omega arith
        | false ↦ λ t.
            let more : sum_by f (x ∷ without_row R key k xs) ≡ f x + sum_by f (without_row R key k xs) =
            sum_by-cons f x (without_row R key k xs) in
            omega arith
      ] refl
