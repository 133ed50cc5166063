-- The table of some rows: what is found in it, and that the rows in rising order are it.
use Rattle.std.proofs.Common.{◌≡◌, ◌≢◌, ℕ, zero, suc, ◌<◌, true, false, cond, T, Decides, Option, List, [], ◌∷◌, length, map, get_or, Some, None, refl, sym, ap, subst, ◌∙◌, arith}
use Rattle.std.specs.declared.cmp.Ordering.{Ordering}
use Rattle.std.specs.declared.cmp.Ordering.TheVariants.{Less, Equal, Greater}
use Rattle.std.specs.Cmp.{eq_by_cmp_equiv}
use Rattle.std.specs.FinMap.Entries.{below_all, is_sorted}
use Rattle.std.specs.List.{AllPairs, Contains, IsDistinct}
use Rattle.std.specs.List.Sorted.{IsPermutation, IsSortedByKey}
use Rattle.std.specs.Ordering.{is_lt, eq_by_cmp, ordering_reverse}
use Rattle.std.proofs.lemmas.List.{length-map, get_or-map}
use Rattle.std.proofs.lemmas.List.Sorted.{IsPermutation-sym, IsPermutation-map, Contains-permutation, sorted_far, ranks_by}
use Rattle.std.proofs.lemmas.Map.Keys.{IsDistinct-IsPermutation}
use Rattle.std.proofs.lemmas.Map.Made.{AllPairs-from_IsDistinct, IsDistinct-from_AllPairs}
use Rattle.row_tables.specs.Table.{IsKeyOrder, find_row, keyed, IsRising, table}
use Rattle.row_tables.proofs.Keyed.{ties_itself, same_from_tie}
use Rattle.row_tables.proofs.Rising.{IsRising-put_row}
use Rattle.row_tables.proofs.Lookups.{find_row-put_row, key-find_row, same_rows}
use Rattle.row_tables.proofs.Elements.{Contains-find_row, find_row-Contains}
use Rattle.row_tables.proofs.Parts.{both_parts}

module _ {K X : Type 0} (R : K → K → Ordering) (key : X → K) (o : IsKeyOrder R) where
  pub IsRising-table : (xs : List X) → IsRising R key (table R key xs)
  IsRising-table [] = tt
  IsRising-table (x ∷ xs) = IsRising-put_row R key o x (table R key xs) (IsRising-table xs)

  -- the first row at a key is found in the table
  pub find_row-table : (q : K) (xs : List X) → find_row R key q (table R key xs) ≡ find_row R key q xs
  find_row-table q [] = refl
  find_row-table q (x ∷ xs) =
      find_row-put_row R key o q x (table R key xs) ∙ ap (cond (eq_by_cmp R q (key x)) (Some x)) (find_row-table q xs)

  -- where nothing is found at a key, no row has it
  absent_row : (x : X) (xs : List X) → find_row R key (key x) xs ≡ None → Contains xs x → ⊥
  absent_row x [] e (k, lt, at) = omega arith
  absent_row x (y ∷ ys) e (zero, lt, at) =
      let found : find_row R key (key x) (y ∷ ys) ≡ Some y =
      ap (λ z. cond (eq_by_cmp R (key z) (key y)) (Some y) (find_row R key (key x) ys)) (sym at)
      ∙ ap (λ b. cond b (Some y) (find_row R key (key x) ys)) (ties_itself R o (key y)) in
      cc
  absent_row x (y ∷ ys) e (suc k, lt, at) =
      elim (eq_by_cmp R (key x) (key y)) as (λ b. cond b (Some y) (find_row R key (key x) ys) ≡ None → ⊥) [
        | true ↦ λ is. cc
        | false ↦ λ is. absent_row x ys is (k, omega arith, at)
      ] e

  alike_at : (q : K) (xs ys : List X) → IsRising R key ys → IsPermutation xs ys
      → find_row R key q ys ≡ find_row R key q xs
  alike_at q xs ys h p =
      elim (find_row R key q xs) as (λ (s : Option X). find_row R key q xs ≡ s → find_row R key q ys ≡ s) [
        | None ↦ λ none. elim (find_row R key q ys) as (λ (s : Option X). find_row R key q ys ≡ s → s ≡ None) [
          | None ↦ λ e. refl
          | (Some y) ↦ λ e.
              let has : key y ≡ q = key-find_row R key o q y ys e in
              let inside : Contains xs y = Contains-permutation ys xs y (IsPermutation-sym xs ys p)
              (Contains-find_row R key q y ys e) in
              absurd (absent_row y xs (subst (λ k. find_row R key k xs ≡ None) (sym has) none) inside)
        ] refl
        | (Some x) ↦ λ e.
            let has : key x ≡ q = key-find_row R key o q x xs e in
            let inside : Contains ys x = Contains-permutation xs ys x p (Contains-find_row R key q x xs e) in
            subst (λ k. find_row R key k ys ≡ Some x) has (find_row-Contains R key o x ys h inside)
      ] refl

  -- the same rows in rising order are the table
  pub table-from_rising : (xs ys : List X) → IsRising R key ys → IsPermutation xs ys → ys ≡ table R key xs
  table-from_rising xs ys h p =
      same_rows R key o ys (table R key xs) h (IsRising-table xs)
      (λ q. alike_at q xs ys h p ∙ sym (find_row-table q xs))

module _ {K X : Type 0} (R : K → K → Ordering) (key : X → K) where
  -- keys of which each is below those after it rise
  below_all-from_each : (k : K) (xs : List X) → ((j : ℕ) (d : X) → j < length xs → R k (key (get_or xs j d)) ≡ Less)
      → T (below_all R k (keyed R key xs))
  below_all-from_each k [] h = tt
  below_all-from_each k (x ∷ xs) h =
      both_parts (is_lt (R k (key x))) (below_all R k (keyed R key xs))
      (subst (λ c. T (is_lt c)) (sym (h 0 x (omega arith))) tt)
      (below_all-from_each k xs (λ j d below. h (suc j) d (omega arith)))

  pub IsRising-from_pairs : (xs : List X) → AllPairs (λ x y. R (key x) (key y) ≡ Less) xs → IsRising R key xs
  IsRising-from_pairs [] h = tt
  IsRising-from_pairs (x ∷ xs) h =
      both_parts (below_all R (key x) (keyed R key xs)) (is_sorted R (keyed R key xs))
      (below_all-from_each (key x) xs (λ j d below. h 0 (suc j) d (omega arith) (omega arith)))
      (IsRising-from_pairs xs (λ i j d lt below. h (suc i) (suc j) d (omega arith) (omega arith)))

-- of two answers that are not Greater and not Equal
less_left : (c : Ordering) → is_lt (ordering_reverse c) ≡ false → (c ≡ Equal → ⊥) → c ≡ Less
less_left Less g e = refl
less_left Equal g e = absurd (e refl)
less_left Greater g e = cc

module _ {K X : Type 0} (R : K → K → Ordering) (key : X → K) (o : IsKeyOrder R) where
  tie_decides : (a b : K) → Decides (eq_by_cmp R a b) (a ≡ b)
  tie_decides a b = (λ e. same_from_tie R o a b e, λ e. subst (λ k. eq_by_cmp R a k ≡ true) e (ties_itself R o a))

  -- rows of unlike keys rise after a sort
  IsRising-from_sorted : (xs ys : List X) → AllPairs (λ a b. a ≢ b) (map key xs) → IsSortedByKey key R ys
      → IsPermutation xs ys → IsRising R key ys
  IsRising-from_sorted xs ys differ sorted p =
      let before : IsDistinct (eq_by_cmp R) (map key xs) = IsDistinct-from_AllPairs tie_decides (map key xs) differ in
      let after : IsDistinct (eq_by_cmp R) (map key ys) = IsDistinct-IsPermutation (eq_by_cmp R)
      ((eq_by_cmp_equiv o.total).symm) (map key xs) (map key ys) (IsPermutation-map key xs ys p) before in
      let apart : AllPairs (λ a b. a ≢ b) (map key ys) = AllPairs-from_IsDistinct tie_decides (map key ys) after in
      IsRising-from_pairs R key ys (λ i j d lt below.
      let far : is_lt (R (key (get_or ys j d)) (key (get_or ys i d))) ≡ false =
      sorted_far (λ x y. is_lt (R (key x) (key y))) (ranks_by o.total key) ys sorted i j d (omega arith) below in
      let turned : is_lt (ordering_reverse (R (key (get_or ys i d)) (key (get_or ys j d)))) ≡ false =
      ap is_lt (sym (o.total.antisymm (key (get_or ys j d)) (key (get_or ys i d)))) ∙ far in
      let here : j < length (map key ys) = simp length-map below in
      let unlike : key (get_or ys i d) ≢ key (get_or ys j d) = λ e.
      apart i j (key d) lt here (get_or-map key ys i d (key d) (omega arith) ∙ e ∙ sym
      (get_or-map key ys j d (key d) below)) in
      less_left (R (key (get_or ys i d)) (key (get_or ys j d))) turned
      (λ e. unlike (o.exact (key (get_or ys i d)) (key (get_or ys j d)) e)))

  pub table-from_sorted : (xs ys : List X) → AllPairs (λ a b. a ≢ b) (map key xs) → IsSortedByKey key R ys
      → IsPermutation xs ys → ys ≡ table R key xs
  table-from_sorted xs ys differ sorted p = table-from_rising R key o xs ys
      (IsRising-from_sorted xs ys differ sorted p) p
