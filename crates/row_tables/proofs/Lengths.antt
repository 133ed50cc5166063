-- How many rows a put and a removal leave.
use Rattle.std.proofs.Common.{◌≡◌, ◌+◌, true, false, cond, List, [], ◌∷◌, length, Option, Some, None, is_some, refl, sym, ap, ◌∙◌, arith}
use Rattle.std.specs.declared.cmp.Ordering.{Ordering}
use Rattle.std.specs.FinMap.Entries.{find, length-put, length_without}
use Rattle.std.specs.Ordering.{eq_by_cmp}
use Rattle.row_tables.specs.Table.{IsKeyOrder, find_row, put_row, without_row, keyed, IsRising}
use Rattle.row_tables.proofs.Keyed.{find_row-keyed, keyed-put_row, keyed-without_row, length-keyed}

module _ {K X : Type 0} (R : K → K → Ordering) (key : X → K) (o : IsKeyOrder R) where
  pub length-put_row : (r : X) (xs : List X) → IsRising R key xs
      → length (put_row R key r xs) ≡ cond (is_some (find_row R key (key r) xs)) (length xs) (length xs + 1)
  length-put_row r xs h =
      sym (length-keyed R key (put_row R key r xs)) ∙ ap length (keyed-put_row R key o r xs)
      ∙ length-put R o.total (key r) r (keyed R key xs) h
      ∙ ap (λ n. cond (is_some (find R (key r) (keyed R key xs))) n (n + 1)) (length-keyed R key xs)
      ∙ ap (λ (s : Option X). cond (is_some s) (length xs) (length xs + 1)) (sym (find_row-keyed R key (key r) xs))

  pub length-put_row_new : (r : X) (xs : List X) → IsRising R key xs → find_row R key (key r) xs ≡ None
      → length (put_row R key r xs) ≡ length xs + 1
  length-put_row_new r xs h e = length-put_row r xs h ∙ ap
      (λ (s : Option X). cond (is_some s) (length xs) (length xs + 1)) e

  pub length-put_row_known : (r x : X) (xs : List X) → IsRising R key xs → find_row R key (key r) xs ≡ Some x
      → length (put_row R key r xs) ≡ length xs
  length-put_row_known r x xs h e = length-put_row r xs h ∙ ap
      (λ (s : Option X). cond (is_some s) (length xs) (length xs + 1)) e

  pub length-without_row : (k : K) (xs : List X) → IsRising R key xs
      → cond (is_some (find_row R key k xs)) 1 0 + length (without_row R key k xs) ≡ length xs
  length-without_row k xs h =
      ap (λ (s : Option X). cond (is_some s) 1 0 + length (without_row R key k xs)) (find_row-keyed R key k xs)
      ∙ ap (λ n. cond (is_some (find R k (keyed R key xs))) 1 0 + n)
      (sym (length-keyed R key (without_row R key k xs)) ∙ ap length (keyed-without_row R key k xs))
      ∙ length_without R o.total k (keyed R key xs) h ∙ length-keyed R key xs

  pub length-without_row_known : (k : K) (x : X) (xs : List X) → IsRising R key xs → find_row R key k xs ≡ Some x
      → length (without_row R key k xs) + 1 ≡ length xs
  length-without_row_known k x xs h e =
      let counted : 1 + length (without_row R key k xs) ≡ length xs =
      ap (λ (s : Option X). cond (is_some s) 1 0 + length (without_row R key k xs))
      (sym e) ∙ length-without_row k xs h in
      omega arith

module _ {K X : Type 0} (R : K → K → Ordering) (key : X → K) where
  -- a removal that finds nothing changes nothing
  pub without_row_unknown : (k : K) (xs : List X) → find_row R key k xs ≡ None → without_row R key k xs ≡ xs
  without_row_unknown k [] e = refl
  without_row_unknown k (x ∷ xs) e =
      elim (eq_by_cmp R k (key x)) as (λ b. cond b (Some x) (find_row R key k xs) ≡ None
      → cond b (without_row R key k xs) (x ∷ without_row R key k xs) ≡ x ∷ xs) [
        | true ↦ λ is. cc
        | false ↦ λ is. ap (λ ys. x ∷ ys) (without_row_unknown k xs is)
      ] e
