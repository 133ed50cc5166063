-- What holds of each row, and that the rows of a table are what is found in it.
use Rattle.std.proofs.Common.{◌≡◌, zero, suc, true, false, cond, T, List, [], ◌∷◌, Some, ap, subst, ◌∙◌, arith}
use Rattle.std.specs.declared.cmp.Ordering.{Ordering}
use Rattle.std.specs.declared.cmp.Ordering.TheVariants.{Less, Equal, Greater}
use Rattle.std.specs.FinMap.Entries.{by_order, below_all}
use Rattle.std.specs.List.{All, Contains}
use Rattle.std.specs.Option.{unwrap_or}
use Rattle.std.specs.Ordering.{is_eq, is_lt, eq_by_cmp, ordering_reverse}
use Rattle.std.proofs.lemmas.List.Elements.{All-nil, All-cons, All-head, All-tail, All-contains}
use Rattle.row_tables.specs.Table.{IsKeyOrder, find_row, put_row, without_row, keyed, IsRising}
use Rattle.row_tables.proofs.Keyed.{less_from_test, ties_itself}
use Rattle.row_tables.proofs.Rising.{first_of_both, second_of_both, below_rest, IsRising-tail}

module _ {K X : Type 0} (R : K → K → Ordering) (key : X → K) where
  pub All-put_row : (P : X → Type 0) (r : X) (xs : List X) → P r → All P xs → All P (put_row R key r xs)
  All-put_row P r [] p h = All-cons P r [] p h
  All-put_row P r (x ∷ xs) p h =
      elim (R (key r) (key x)) as (λ c. All P (by_order c (r ∷ x ∷ xs) (r ∷ xs) (x ∷ put_row R key r xs))) [
        | Less ↦ All-cons P r (x ∷ xs) p h
        | Equal ↦ All-cons P r xs p (All-tail P x xs h)
        | Greater ↦ All-cons P x (put_row R key r xs) (All-head P x xs h) (All-put_row P r xs p (All-tail P x xs h))
      ]

  pub All-without_row : (P : X → Type 0) (k : K) (xs : List X) → All P xs → All P (without_row R key k xs)
  All-without_row P k [] h = h
  All-without_row P k (x ∷ xs) h =
      let rest = All-without_row P k xs (All-tail P x xs h) in
      elim (eq_by_cmp R k (key x)) as (λ b. All P (cond b (without_row R key k xs) (x ∷ without_row R key k xs))) [
        | true ↦ rest
        | false ↦ All-cons P x (without_row R key k xs) (All-head P x xs h) rest
      ]

  -- what holds of each row holds of the one that is found
  pub find_row-All : (P : X → Type 0) (q : K) (x : X) (xs : List X) → All P xs → find_row R key q xs ≡ Some x → P x
  find_row-All P q x [] h e = cc
  find_row-All P q x (y ∷ ys) h e =
      elim (eq_by_cmp R q (key y)) as (λ b. cond b (Some y) (find_row R key q ys) ≡ Some x → P x) [
        | true ↦ λ is. let one : y ≡ x = ap (λ s. unwrap_or s x) is in subst P one (All-head P y ys h)
        | false ↦ λ is. find_row-All P q x ys (All-tail P y ys h) is
      ] e

  -- a key below all rows is below each
  pub All-above : (k : K) (xs : List X) → T (below_all R k (keyed R key xs)) → All (λ x. R k (key x) ≡ Less) xs
  All-above k [] h = All-nil (λ x. R k (key x) ≡ Less)
  All-above k (x ∷ xs) h =
      let first = first_of_both (is_lt (R k (key x))) (below_all R k (keyed R key xs)) h in
      let rest = second_of_both (is_lt (R k (key x))) (below_all R k (keyed R key xs)) h in
      All-cons (λ x. R k (key x) ≡ Less) x xs (less_from_test (R k (key x)) first) (All-above k xs rest)

  -- a row that is found is in the table
  pub Contains-find_row : (q : K) (x : X) (xs : List X) → find_row R key q xs ≡ Some x → Contains xs x
  Contains-find_row q x [] e = cc
  Contains-find_row q x (y ∷ ys) e =
      elim (eq_by_cmp R q (key y)) as (λ b. cond b (Some y) (find_row R key q ys) ≡ Some x → Contains (y ∷ ys) x) [
        | true ↦ λ is. (0, omega arith, ap (λ s. unwrap_or s x) is)
        | false ↦ λ is. let at = Contains-find_row q x ys is in (suc at.0, omega (arith, at.1), at.2)
      ] e

  -- and a row that is in the table is found at its key
  pub find_row-Contains : IsKeyOrder R → (x : X) (xs : List X) → IsRising R key xs → Contains xs x
      → find_row R key (key x) xs ≡ Some x
  find_row-Contains o x [] h (k, lt, at) = absurd (omega arith)
  find_row-Contains o x (y ∷ ys) h (zero, lt, at) =
      ap (λ z. cond (eq_by_cmp R (key x) (key z)) (Some z) (find_row R key (key x) ys)) at
      ∙ ap (λ b. cond b (Some x) (find_row R key (key x) ys)) (ties_itself R o (key x))
  find_row-Contains o x (y ∷ ys) h (suc k, lt, at) =
      let inside : Contains ys x = (k, omega arith, at) in
      let above : R (key y) (key x) ≡ Less = All-contains (λ z. R (key y) (key z) ≡ Less) ys x
      (All-above (key y) ys (below_rest R key y ys h)) inside in
      let apart : eq_by_cmp R (key x) (key y) ≡ false = ap is_eq
      (o.total.antisymm (key x) (key y) ∙ ap ordering_reverse above) in
      ap (λ b. cond b (Some y) (find_row R key (key x) ys)) apart ∙ find_row-Contains o x ys
      (IsRising-tail R key y ys h) inside
