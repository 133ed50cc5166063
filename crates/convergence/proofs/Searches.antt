-- What a binary search of a table comes to.
use Rattle.std.proofs.Common.{◌≡◌, ℕ, zero, suc, ◌+◌, ◌<◌, ◌≤◌, Option, List, [], ◌∷◌, length, get_or, Some, None, refl, sym, ap, subst, ◌∙◌, ⊎_elim, arith, false}
use Rattle.std.specs.declared.cmp.Ordering.{Ordering}
use Rattle.std.specs.declared.cmp.Ordering.TheVariants.{Less, Equal, Greater}
use Rattle.std.specs.Cmp.{tied_itself}
use Rattle.std.specs.List.{AllWithin, Contains}
use Rattle.std.specs.List.Sorted.{IsSortedByKey}
use Rattle.std.specs.Ordering.{is_lt, ordering_reverse}
use Rattle.std.proofs.lemmas.Bool.{cases_lt}
use Rattle.std.proofs.lemmas.List.Elements.{All-get_or}
use Rattle.row_tables.specs.Table.{IsKeyOrder, find_row, IsRising}
use Rattle.row_tables.proofs.Public.{below_rest, IsRising-tail, key-find_row, All-above, Contains-find_row, find_row-Contains}

module _ {K X : Type 0} (R : K → K → Ordering) (key : X → K) (o : IsKeyOrder R) where
  sorted_at : (xs : List X) → IsRising R key xs → (k : ℕ) (d : X) → k + 1 < length xs
      → is_lt (R (key (get_or xs (k + 1) d)) (key (get_or xs k d))) ≡ false
  sorted_at [] h k d lt = absurd (omega arith)
  sorted_at (x ∷ xs) h zero d lt =
      let less : R (key x) (key (get_or xs 0 d)) ≡ Less = All-get_or (λ y. R (key x) (key y) ≡ Less) xs 0 d
      (omega arith) (All-above R key (key x) xs (below_rest R key x xs h)) in
      ap is_lt (o.total.antisymm (key (get_or xs 0 d)) (key x) ∙ ap ordering_reverse less)
  sorted_at (x ∷ xs) h (suc k) d lt =
      let e : suc k + 1 ≡ suc (k + 1) = omega arith in
      rw e (sorted_at xs (IsRising-tail R key x xs h) k d (omega arith))

  -- the rows of a table are sorted
  pub IsSortedByKey-from_rising : (xs : List X) → IsRising R key xs → IsSortedByKey key R xs
  IsSortedByKey-from_rising xs h = λ k d low lt. sorted_at xs h k d lt

  -- the row at a place where the key ties is the one that is found
  pub found_at : (q : K) (xs : List X) (i : ℕ) (x : X) → IsRising R key xs → i < length xs → x ≡ get_or xs i x
      → ((d : X) → R (key (get_or xs i d)) q ≡ Equal) → Some x ≡ find_row R key q xs
  found_at q xs i x h lt at tied =
      let same : key x ≡ q = o.exact (key x) q (subst (λ y. R (key y) q ≡ Equal) (sym at) (tied x)) in
      sym (subst (λ k. find_row R key k xs ≡ Some x) same (find_row-Contains R key o x xs h (i, lt, sym at)))

  -- nothing is found at a key between the rows before a place and those after it
  pub absent_at : (q : K) (xs : List X) (i : ℕ) → AllWithin (λ y. R (key y) q ≡ Less) xs 0 i
      → AllWithin (λ y. R (key y) q ≡ Greater) xs i (length xs) → None ≡ find_row R key q xs
  absent_at q xs i before after =
      elim (find_row R key q xs) as (λ (s : Option X). find_row R key q xs ≡ s → None ≡ s) [
        | None ↦ λ e. refl
        | (Some x) ↦ λ e.
            let inside : Contains xs x = Contains-find_row R key q x xs e in
            let tied : R (key (get_or xs inside.0 x)) q ≡ Equal =
            ap (λ y. R (key y) q) inside.2 ∙ ap (λ k. R k q)
            (key-find_row R key o q x xs e) ∙ tied_itself o.total q in
            ⊎_elim
            (λ (lt : inside.0 < i). let less : R (key (get_or xs inside.0 x)) q ≡ Less =
            before inside.0 x (omega arith) lt in absurd cc)
            (λ (ge : i ≤ inside.0). let greater : R (key (get_or xs inside.0 x)) q ≡ Greater =
            after inside.0 x ge inside.1 in absurd cc)
            (cases_lt inside.0 i)
      ] refl
