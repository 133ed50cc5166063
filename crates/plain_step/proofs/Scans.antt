-- What plain scans of a table come to.
use Rattle.std.proofs.Common.{drop, append_assoc, ◌≡◌, ℕ, suc, ◌+◌, ◌<◌, ◌≤◌, Bool, true, false, cond, not, take, get_or, nat_lt, List, [], ◌∷◌, ◌++◌, length, Some, None, refl, ap, ◌∙◌, sym, arith}
use Rattle.std.specs.Prelude.{unwrap_or}
use Rattle.std.proofs.lemmas.Bool.Decides.{nat_tests}
use Rattle.std.proofs.lemmas.List.{take_more}
use Rattle.std.proofs.lemmas.List.Sums.{prefix_len-le-length}
use Rattle.std.specs.List.{position, position_or_len}
use Rattle.std.specs.Ordering.{is_eq, is_ne, is_le, eq_by_cmp}
use Rattle.std.specs.FinMap.Entries.{by_order}
use Rattle.std.specs.declared.cmp.Ordering.{Ordering}
use Rattle.std.specs.declared.cmp.Ordering.TheVariants.{Less, Equal, Greater}
use Rattle.row_tables.specs.Table.{put_row, without_row}

-- one row more of those before a place
pub one_more : {X : Type 0} (xs : List X) (i : ℕ) (x : X) → i < length xs → x ≡ get_or xs i x
    → take (i + 1) xs ≡ take i xs ++ x ∷ []
one_more xs i x lt is = take_more xs i x lt ∙ ap (λ y. take i xs ++ y ∷ []) (sym is)

module _ {K X : Type 0} (R : K → K → Ordering) (key : X → K) where
  front_or_not : (b c : Bool) (x y : X) (xs : List X)
      → cond b (cond c xs (xs ++ x ∷ [])) (y ∷ cond c xs (xs ++ x ∷ []))
      ≡ cond c (cond b xs (y ∷ xs)) (cond b xs (y ∷ xs) ++ x ∷ [])
  front_or_not true true x y xs = refl
  front_or_not true false x y xs = refl
  front_or_not false true x y xs = refl
  front_or_not false false x y xs = refl

  -- a row more at the end is left unless it stands at the key
  pub without_row-append : (k : K) (xs : List X) (x : X)
      → without_row R key k (xs ++ x ∷ []) ≡ cond (eq_by_cmp R k (key x)) (without_row R key k xs)
      (without_row R key k xs ++ x ∷ [])
  without_row-append k [] x = refl
  without_row-append k (y ∷ ys) x =
      ap (λ zs. cond (eq_by_cmp R k (key y)) zs (y ∷ zs)) (without_row-append k ys x)
      ∙ front_or_not (eq_by_cmp R k (key y)) (eq_by_cmp R k (key x)) x y (without_row R key k ys)

  -- a scan of those before a place goes on with the row there
  pub without_row-one_more : (k : K) (xs left : List X) (i : ℕ) (x : X) (b : Bool) → i < length xs → x ≡ get_or xs i x
      → left ≡ without_row R key k (take i xs) → eq_by_cmp R k (key x) ≡ b
      → cond b left (left ++ x ∷ []) ≡ without_row R key k (take (i + 1) xs)
  without_row-one_more k xs left i x b lt is at tied =
      ap (λ ys. cond b ys (ys ++ x ∷ [])) at
      ∙ ap (λ c. cond c (without_row R key k (take i xs)) (without_row R key k (take i xs) ++ x ∷ [])) (sym tied)
      ∙ sym (without_row-append k (take i xs) x) ∙ ap (without_row R key k) (sym (one_more xs i x lt is))

-- what a test of an order's answer says of ties
pub tied_not : (o : Ordering) (b : Bool) → b ≡ is_ne o → is_eq o ≡ not b
tied_not Less b e = ap not (sym e)
tied_not Equal b e = ap not (sym e)
tied_not Greater b e = ap not (sym e)

chosen_by : (m n : ℕ) → m ≤ n → (b : Bool) → nat_lt m n ≡ b → unwrap_or (cond b (Some m) None) n ≡ m
chosen_by m n le true e = refl
chosen_by m n le false e = grind (arith, nat_tests)

-- a search that may find nothing, and the length where it does
pub unwrap_or-position : {X : Type 0} (p : X → Bool) (xs : List X)
    → unwrap_or (position p xs) (length xs) ≡ position_or_len p xs
unwrap_or-position p xs =
    chosen_by (position_or_len p xs) (length xs) (prefix_len-le-length (λ x. not (p x)) xs)
    (nat_lt (position_or_len p xs) (length xs)) refl

pub position_or_len-within : {X : Type 0} (p : X → Bool) (xs : List X) → position_or_len p xs ≤ length xs
position_or_len-within p xs = prefix_len-le-length (λ x. not (p x)) xs

module _ {K X : Type 0} (R : K → K → Ordering) (key : X → K) (r : X) where
  -- a table with the row in the place n, without the row that stood there at its key
  at_place : ℕ → List X → List X
  at_place n xs = take n xs ++ r ∷ (without_row R key (key r) (take 1 (drop n xs)) ++ drop 1 (drop n xs))

  at_first : (x : X) (xs : List X) (b : Bool) → eq_by_cmp R (key r) (key x) ≡ b
      → at_place 0 (x ∷ xs) ≡ r ∷ cond b xs (x ∷ xs)
  unfolding at_place
  at_first x xs true e = ap (λ c. r ∷ (cond c [] (x ∷ []) ++ xs)) e
  at_first x xs false e = ap (λ c. r ∷ (cond c [] (x ∷ []) ++ xs)) e

  at_later : (x : X) (xs : List X) (n : ℕ) → at_place (1 + n) (x ∷ xs) ≡ x ∷ at_place n xs
  unfolding at_place
  at_later x xs n = let e : 1 + n ≡ suc n = omega arith in rw e refl

  put_step : (x : X) (xs : List X) (o : Ordering) (n : ℕ) → R (key r) (key x) ≡ o → put_row R key r xs ≡ at_place n xs
      → by_order o (r ∷ x ∷ xs) (r ∷ xs) (x ∷ put_row R key r xs) ≡ at_place (cond (not (is_le o)) (1 + n) 0) (x ∷ xs)
  put_step x xs Less n is ih = sym (at_first x xs false (ap is_eq is))
  put_step x xs Equal n is ih = sym (at_first x xs true (ap is_eq is))
  put_step x xs Greater n is ih = ap (λ ys. x ∷ ys) ih ∙ sym (at_later x xs n)

  put_row-at_place : (xs : List X) → put_row R key r xs ≡ at_place
      (position_or_len (λ x. is_le (R (key r) (key x))) xs) xs
  unfolding at_place
  put_row-at_place [] = refl
  put_row-at_place (x ∷ xs) =
      put_step x xs (R (key r) (key x)) (position_or_len (λ y. is_le (R (key r) (key y))) xs) refl (put_row-at_place xs)

  -- the rows below a place, the row, and the rows above it
  pub put_row-pieces : (xs below rest above all : List X) (k : K) (n : ℕ) → k ≡ key r
      → n ≡ position_or_len (λ x. is_le (R k (key x))) xs → below ≡ take n xs → rest ≡ drop n xs
      → above ≡ without_row R key k (take 1 rest) ++ drop 1 rest
      → all ≡ (below ++ r ∷ []) ++ above → all ≡ put_row R key r xs
  unfolding at_place
  put_row-pieces xs below rest above all k n k_is n_is below_is rest_is above_is all_is =
      all_is ∙ append_assoc below (r ∷ []) above
      ∙ (λ i. below_is i ++ r ∷ (above_is ∙ (λ j. without_row R key (k_is j) (take 1 (rest_is j))
      ++ drop 1 (rest_is j))) i)
      ∙ ap (λ m. at_place m xs) (n_is ∙ ap (λ q. position_or_len (λ x. is_le (R q (key x))) xs) k_is)
      ∙ sym (put_row-at_place xs)
