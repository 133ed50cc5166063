-- A table beside the list of its entries, on which std has the laws of finite maps.
use Rattle.std.proofs.Common.{◌≡◌, ◌≢◌, suc, true, false, cond, not, T, List, [], ◌∷◌, map, length, Some, refl, sym, ap, subst, ◌∙◌}
use Rattle.std.specs.declared.cmp.Ordering.{Ordering}
use Rattle.std.specs.declared.cmp.Ordering.TheVariants.{Less, Equal, Greater}
use Rattle.std.specs.Cmp.{tied_itself}
use Rattle.std.specs.FinMap.Entries.{by_order, find, put, where_key}
use Rattle.std.specs.Ordering.{is_eq, is_lt, eq_by_cmp}
use Rattle.row_tables.specs.Table.{IsKeyOrder, find_row, put_row, without_row, keyed}

-- what a test of an order's answer says of it
pub equal_from_test : (o : Ordering) → T (is_eq o) → o ≡ Equal
equal_from_test Less h = absurd h
equal_from_test Equal h = refl
equal_from_test Greater h = absurd h

pub less_from_test : (o : Ordering) → T (is_lt o) → o ≡ Less
less_from_test Less h = refl
less_from_test Equal h = absurd h
less_from_test Greater h = absurd h

module _ {K : Type 0} (R : K → K → Ordering) (o : IsKeyOrder R) where
  -- a key ties with itself, and with no other
  pub ties_itself : (k : K) → eq_by_cmp R k k ≡ true
  ties_itself k = ap is_eq (tied_itself o.total k)

  pub same_from_tie : (q k : K) → eq_by_cmp R q k ≡ true → q ≡ k
  same_from_tie q k e = o.exact q k (equal_from_test (R q k) (subst T (sym e) tt))

  pub no_tie : (q k : K) → q ≢ k → eq_by_cmp R q k ≡ false
  no_tie q k other =
      elim (eq_by_cmp R q k) as (λ b. eq_by_cmp R q k ≡ b → b ≡ false) [
        | true ↦ λ e. absurd (other (same_from_tie q k e))
        | false ↦ λ e. refl
      ] refl

module _ {K X : Type 0} (R : K → K → Ordering) (key : X → K) where
  pub find_row-keyed : (q : K) (xs : List X) → find_row R key q xs ≡ find R q (keyed R key xs)
  find_row-keyed q [] = refl
  find_row-keyed q (x ∷ xs) = ap (cond (eq_by_cmp R q (key x)) (Some x)) (find_row-keyed q xs)

  pub keyed-put_row : IsKeyOrder R → (r : X) (xs : List X)
      → keyed R key (put_row R key r xs) ≡ put R (key r) r (keyed R key xs)
  keyed-put_row o r [] = refl
  keyed-put_row o r (x ∷ xs) =
      elim (R (key r) (key x)) as (λ c. R (key r) (key x) ≡ c
      → keyed R key (by_order c (r ∷ x ∷ xs) (r ∷ xs) (x ∷ put_row R key r xs))
      ≡ by_order c ((key r, r) ∷ keyed R key (x ∷ xs)) ((key x, r) ∷ keyed R key xs)
      ((key x, x) ∷ put R (key r) r (keyed R key xs))) [
        | Less ↦ λ p. refl
        | Equal ↦ λ p. λ i. (o.exact _ _ p i, r) ∷ keyed R key xs
        | Greater ↦ λ p. ap (λ es. (key x, x) ∷ es) (keyed-put_row o r xs)
      ] refl

  pub keyed-without_row : (k : K) (xs : List X) → keyed R key (without_row R key k xs)
      ≡ where_key R (λ q. not (eq_by_cmp R k q)) (keyed R key xs)
  keyed-without_row k [] = refl
  keyed-without_row k (x ∷ xs) =
      let left = where_key R (λ q. not (eq_by_cmp R k q)) (keyed R key xs) in
      elim (eq_by_cmp R k (key x)) as (λ b. keyed R key (cond b (without_row R key k xs) (x ∷ without_row R key k xs))
      ≡ cond (not b) ((key x, x) ∷ left) left) [
        | true ↦ keyed-without_row k xs
        | false ↦ ap (λ es. (key x, x) ∷ es) (keyed-without_row k xs)
      ]

  -- the rows are the entries' values
  pub map-keyed : (xs : List X) → map (λ e. e.1) (keyed R key xs) ≡ xs
  map-keyed [] = refl
  map-keyed (x ∷ xs) = ap (λ ys. x ∷ ys) (map-keyed xs)

  pub length-keyed : (xs : List X) → length (keyed R key xs) ≡ length xs
  length-keyed [] = refl
  length-keyed (x ∷ xs) = ap suc (length-keyed xs)

  pub same_from_keyed : (xs ys : List X) → keyed R key xs ≡ keyed R key ys → xs ≡ ys
  same_from_keyed xs ys e = sym (map-keyed xs) ∙ ap (map (λ e. e.1)) e ∙ map-keyed ys
