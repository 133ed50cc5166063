-- Tables of the same rows.
use Rattle.std.proofs.Common.{◌≡◌, zero, suc, true, false, cond, Option, List, [], ◌∷◌, Some, None, refl, sym, ap, subst, ◌∙◌, arith}
use Rattle.std.specs.declared.cmp.Ordering.{Ordering}
use Rattle.std.specs.List.{Contains}
use Rattle.std.specs.Ordering.{eq_by_cmp}
use Rattle.row_tables.specs.Table.{IsKeyOrder, find_row, IsRising, table}
use Rattle.row_tables.proofs.Public.{ties_itself, same_from_tie, key-find_row, same_rows, Contains-find_row, find_row-Contains, IsRising-table, find_row-table}

module _ {K X : Type 0} (R : K → K → Ordering) (key : X → K) (o : IsKeyOrder R) where
  found_in_both : (xs ys : List X) → IsRising R key ys → ((x : X) → Contains xs x → Contains ys x) → (q : K) (x : X)
      → find_row R key q xs ≡ Some x → find_row R key q ys ≡ Some x
  found_in_both xs ys h into q x e =
      subst (λ k. find_row R key k ys ≡ Some x) (key-find_row R key o q x xs e)
      (find_row-Contains R key o x ys h (into x (Contains-find_row R key q x xs e)))

  found_alike : (xs ys : List X) → IsRising R key xs → IsRising R key ys → ((x : X) → Contains xs x → Contains ys x)
      → ((x : X) → Contains ys x → Contains xs x) → (q : K) → find_row R key q xs ≡ find_row R key q ys
  found_alike xs ys f g into back q =
      elim (find_row R key q xs) as (λ (s : Option X). find_row R key q xs ≡ s → s ≡ find_row R key q ys) [
        | None ↦ λ none. elim (find_row R key q ys) as (λ (s : Option X). find_row R key q ys ≡ s → None ≡ s) [
          | None ↦ λ e. refl
          | (Some y) ↦ λ e. let there : find_row R key q xs ≡ Some y = found_in_both ys xs f back q y e in cc
        ] refl
        | (Some x) ↦ λ e. sym (found_in_both xs ys g into q x e)
      ] refl

  -- two tables of the same rows are one
  pub same_members : (xs ys : List X) → IsRising R key xs → IsRising R key ys
      → ((x : X) → Contains xs x → Contains ys x) → ((x : X) → Contains ys x → Contains xs x) → xs ≡ ys
  same_members xs ys f g into back = same_rows R key o xs ys f g (found_alike xs ys f g into back)

module _ {K : Type 0} (R : K → K → Ordering) (o : IsKeyOrder R) where
  -- a row that is its own key is found
  found_itself : (q : K) (xs : List K) → Contains xs q → find_row R (λ p. p) q xs ≡ Some q
  found_itself q [] (k, lt, at) = absurd (omega arith)
  found_itself q (x ∷ xs) (zero, lt, at) =
      ap (λ z. cond (eq_by_cmp R q z) (Some z) (find_row R (λ p. p) q xs)) at
      ∙ ap (λ b. cond b (Some q) (find_row R (λ p. p) q xs)) (ties_itself R o q)
  found_itself q (x ∷ xs) (suc k, lt, at) =
      elim (eq_by_cmp R q x) as (λ b. eq_by_cmp R q x ≡ b → cond b (Some x) (find_row R (λ p. p) q xs) ≡ Some q) [
        | true ↦ λ e. ap Some (sym (same_from_tie R o q x e))
        | false ↦ λ e. found_itself q xs (k, omega arith, at)
      ] refl

  -- rows that are their own keys are those of their table
  pub Contains-table : (xs : List K) (q : K) → Contains xs q → Contains (table R (λ p. p) xs) q
  Contains-table xs q h = Contains-find_row R (λ p. p) q q (table R (λ p. p) xs)
      (find_row-table R (λ p. p) o q xs ∙ found_itself q xs h)

  pub Contains-from_table : (xs : List K) (q : K) → Contains (table R (λ p. p) xs) q → Contains xs q
  Contains-from_table xs q h =
      Contains-find_row R (λ p. p) q q xs (sym (find_row-table R (λ p. p) o q xs) ∙ find_row-Contains R (λ p. p) o q
      (table R (λ p. p) xs) (IsRising-table R (λ p. p) o xs) h)
