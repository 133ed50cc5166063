-- What keeps the keys rising.
use Rattle.std.proofs.Common.{◌≡◌, Bool, true, false, ◌&&◌, not, T, List, [], ◌∷◌, Some, None, refl, sym, ap, subst, ◌∙◌, cond}
use Rattle.std.specs.declared.cmp.Ordering.{Ordering}
use Rattle.std.specs.declared.cmp.Ordering.TheVariants.{Less}
use Rattle.std.specs.FinMap.Entries.{is_sorted, below_all, is_sorted-put, is_sorted-where_key}
use Rattle.std.specs.Ordering.{is_eq, is_lt, eq_by_cmp}
use Rattle.row_tables.specs.Table.{IsKeyOrder, find_row, put_row, without_row, keyed, IsRising}
use Rattle.row_tables.proofs.Keyed.{less_from_test, keyed-put_row, keyed-without_row}

-- the parts of a test of two
pub first_of_both : (a b : Bool) → T (a && b) → T a
first_of_both true b h = tt
first_of_both false b h = h

pub second_of_both : (a b : Bool) → T (a && b) → T b
second_of_both true b h = h
second_of_both false b h = absurd h

module _ {K X : Type 0} (R : K → K → Ordering) (key : X → K) where
  -- a row stands below all that come after it, and those rise too
  pub below_rest : (x : X) (xs : List X) → IsRising R key (x ∷ xs) → T (below_all R (key x) (keyed R key xs))
  below_rest x xs h = first_of_both (below_all R (key x) (keyed R key xs)) (is_sorted R (keyed R key xs)) h

  pub IsRising-tail : (x : X) (xs : List X) → IsRising R key (x ∷ xs) → IsRising R key xs
  IsRising-tail x xs h = second_of_both (below_all R (key x) (keyed R key xs)) (is_sorted R (keyed R key xs)) h

  pub IsRising-put_row : IsKeyOrder R → (r : X) (xs : List X) → IsRising R key xs → IsRising R key (put_row R key r xs)
  IsRising-put_row o r xs h =
      subst (λ es. T (is_sorted R es)) (sym (keyed-put_row R key o r xs))
      (is_sorted-put R o.total (key r) r (keyed R key xs) h)

  pub IsRising-without_row : (k : K) (xs : List X) → IsRising R key xs → IsRising R key (without_row R key k xs)
  IsRising-without_row k xs h =
      subst (λ es. T (is_sorted R es)) (sym (keyed-without_row R key k xs))
      (is_sorted-where_key R (λ q. not (eq_by_cmp R k q)) (keyed R key xs) h)

  -- nothing is found at a key below all rows
  pub find_row-below_all : (q : K) (xs : List X) → T (below_all R q (keyed R key xs)) → find_row R key q xs ≡ None
  find_row-below_all q [] h = refl
  find_row-below_all q (x ∷ xs) h =
      let less : R q (key x) ≡ Less = less_from_test (R q (key x))
      (first_of_both (is_lt (R q (key x))) (below_all R q (keyed R key xs)) h) in
      ap (λ c. cond (is_eq c) (Some x) (find_row R key q xs)) less
      ∙ find_row-below_all q xs (second_of_both (is_lt (R q (key x))) (below_all R q (keyed R key xs)) h)

  -- nor at one below the first row
  pub find_row-below_first : IsKeyOrder R → (q : K) (x : X) (xs : List X) → R q (key x) ≡ Less
      → T (below_all R (key x) (keyed R key xs)) → find_row R key q xs ≡ None
  find_row-below_first o q x [] p h = refl
  find_row-below_first o q x (y ∷ ys) p h =
      let above : R (key x) (key y) ≡ Less = less_from_test (R (key x) (key y))
      (first_of_both (is_lt (R (key x) (key y))) (below_all R (key x) (keyed R key ys)) h) in
      ap (λ c. cond (is_eq c) (Some y) (find_row R key q ys)) (o.total.trans q (key x) (key y) p above)
      ∙ find_row-below_first o q x ys p (second_of_both (is_lt (R (key x) (key y)))
      (below_all R (key x) (keyed R key ys)) h)
