-- What is found at a key after a put and after a removal, and that this determines a table.
use Rattle.std.proofs.Common.{◌≡◌, ◌≢◌, Bool, true, false, cond, not, List, [], ◌∷◌, Some, None, refl, sym, ap, ◌∙◌}
use Rattle.std.specs.declared.cmp.Ordering.{Ordering}
use Rattle.std.specs.Cmp.{alike_right, eq_by_cmp_equiv}
use Rattle.std.specs.FinMap.Entries.{find, find-put, find-where_key, same_entries}
use Rattle.std.specs.Ordering.{is_eq, eq_by_cmp}
use Rattle.std.specs.Option.{unwrap_or}
use Rattle.row_tables.specs.Table.{IsKeyOrder, find_row, put_row, without_row, keyed, IsRising}
use Rattle.row_tables.proofs.Keyed.{ties_itself, same_from_tie, no_tie, find_row-keyed, keyed-put_row, keyed-without_row, same_from_keyed}

-- a test that is turned
cond-not : {A : Type 0} (b : Bool) (x y : A) → cond (not b) x y ≡ cond b y x
cond-not true x y = refl
cond-not false x y = refl

module _ {K X : Type 0} (R : K → K → Ordering) (key : X → K) (o : IsKeyOrder R) where
  pub find_row-put_row : (q : K) (r : X) (xs : List X) → find_row R key q (put_row R key r xs)
      ≡ cond (eq_by_cmp R q (key r)) (Some r) (find_row R key q xs)
  find_row-put_row q r xs =
      find_row-keyed R key q _ ∙ ap (find R q) (keyed-put_row R key o r xs) ∙ find-put R o.total q (key r) r
      (keyed R key xs)
      ∙ ap (cond (eq_by_cmp R q (key r)) (Some r)) (sym (find_row-keyed R key q xs))

  pub find_row-put_row_same : (r : X) (xs : List X) → find_row R key (key r) (put_row R key r xs) ≡ Some r
  find_row-put_row_same r xs =
      find_row-put_row (key r) r xs ∙ ap (λ b. cond b (Some r) (find_row R key (key r) xs)) (ties_itself R o (key r))

  pub find_row-put_row_other : (q : K) (r : X) (xs : List X) → q ≢ key r
      → find_row R key q (put_row R key r xs) ≡ find_row R key q xs
  find_row-put_row_other q r xs other =
      find_row-put_row q r xs ∙ ap (λ b. cond b (Some r) (find_row R key q xs)) (no_tie R o q (key r) other)

  pub find_row-without_row : (q k : K) (xs : List X) → find_row R key q (without_row R key k xs)
      ≡ cond (eq_by_cmp R q k) None (find_row R key q xs)
  find_row-without_row q k xs =
      find_row-keyed R key q _ ∙ ap (find R q) (keyed-without_row R key k xs)
      ∙ find-where_key R (λ x. not (eq_by_cmp R k x)) q (λ x t.
      ap (λ c. not (is_eq c)) (sym (alike_right o.total q x k t))) (keyed R key xs)
      ∙ cond-not (eq_by_cmp R k q) (find R q (keyed R key xs)) None
      ∙ ap (λ b. cond b None (find R q (keyed R key xs))) ((eq_by_cmp_equiv o.total).symm k q)
      ∙ ap (cond (eq_by_cmp R q k) None) (sym (find_row-keyed R key q xs))

  pub find_row-without_row_same : (k : K) (xs : List X) → find_row R key k (without_row R key k xs) ≡ None
  find_row-without_row_same k xs =
      find_row-without_row k k xs ∙ ap (λ b. cond b None (find_row R key k xs)) (ties_itself R o k)

  pub find_row-without_row_other : (q k : K) (xs : List X) → q ≢ k
      → find_row R key q (without_row R key k xs) ≡ find_row R key q xs
  find_row-without_row_other q k xs other =
      find_row-without_row q k xs ∙ ap (λ b. cond b None (find_row R key q xs)) (no_tie R o q k other)

  -- a row that is found has the key that was asked
  pub key-find_row : (q : K) (x : X) (xs : List X) → find_row R key q xs ≡ Some x → key x ≡ q
  key-find_row q x [] e = cc
  key-find_row q x (y ∷ ys) e =
      elim (eq_by_cmp R q (key y)) as (λ b. eq_by_cmp R q (key y) ≡ b → cond b (Some y) (find_row R key q ys) ≡ Some x
      → key x ≡ q) [
        | true ↦ λ t is. let one : y ≡ x = ap (λ s. unwrap_or s x) is in
            sym (same_from_tie R o q (key y) t ∙ ap key one)
        | false ↦ λ t is. key-find_row q x ys is
      ] refl e

  -- tables that answer alike are one
  pub same_rows : (xs ys : List X) → IsRising R key xs → IsRising R key ys
      → ((q : K) → find_row R key q xs ≡ find_row R key q ys) → xs ≡ ys
  same_rows xs ys g h alike =
      same_from_keyed R key xs ys
      (same_entries R o.total o.exact (keyed R key xs) (keyed R key ys) g h
      (λ q. sym (find_row-keyed R key q xs) ∙ alike q ∙ find_row-keyed R key q ys))
