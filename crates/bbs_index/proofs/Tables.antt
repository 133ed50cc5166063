-- What the table of a map's entries answers, and what a put and a removal in the map do to it.
use Rattle.std.proofs.Common.{◌≡◌, ◌+◌, Bool, true, false, cond, if◌then◌else◌, T, List, [], ◌∷◌, map, length, Option, Some, None, is_some, refl, sym, ap, subst, ◌∙◌, arith}
use Rattle.std.specs.declared.cmp.Ordering.{Ordering}
use Rattle.std.specs.Cmp.{eq_by_cmp_equiv}
use Rattle.std.specs.FinMap.Entries.{find, is_sorted, below_all, is_sorted-put, find-put}
use Rattle.std.specs.Map.{lookup}
use Rattle.std.specs.Option.{unwrap_or}
use Rattle.std.specs.Ordering.{is_eq, is_lt, eq_by_cmp}
use Rattle.row_tables.specs.Table.{IsKeyOrder, find_row, put_row, without_row, keyed, IsRising}
use Rattle.row_tables.proofs.Public.{less_from_test, ties_itself, same_from_tie, find_row-keyed, length-put_row, length-without_row, find_row-put_row, find_row-without_row, same_rows, first_of_both, second_of_both, IsRising-put_row, IsRising-without_row}
use Rattle.bbs_index.specs.Shelf.{in_order, table_of, IsShelf}

module _ {K X : Type 0} (R : K → K → Ordering) (o : IsKeyOrder R) where
  sorted-in_order : (es : List (K × X)) → T (is_sorted R (in_order R es))
  sorted-in_order [] = tt
  sorted-in_order (e ∷ es) = is_sorted-put R o.total e.0 e.1 (in_order R es) (sorted-in_order es)

  find-below_all : (q : K) (es : List (K × X)) → T (below_all R q es) → find R q es ≡ None
  find-below_all q [] h = refl
  find-below_all q (e ∷ es) h =
      let less = less_from_test (R q e.0) (first_of_both (is_lt (R q e.0)) (below_all R q es) h) in
      ap (λ c. cond (is_eq c) (Some e.1) (find R q es)) less ∙ find-below_all q es
      (second_of_both (is_lt (R q e.0)) (below_all R q es) h)

  module _ (key : X → K) where
    -- entries in order whose rows stand under their own keys are the rows, each beside its key
    rekeyed : (es : List (K × X)) → T (is_sorted R es) → ((q : K) (x : X) → find R q es ≡ Some x → key x ≡ q)
        → keyed R key (map (λ e. e.1) es) ≡ es
    rekeyed [] h at = refl
    rekeyed (e ∷ es) h at =
        let first : key e.1 ≡ e.0 = at e.0 e.1 (ap (λ b. cond b (Some e.1) (find R e.0 es)) (ties_itself R o e.0)) in
        let below = first_of_both (below_all R e.0 es) (is_sorted R es) h in
        let later : (q : K) (x : X) → find R q es ≡ Some x → key x ≡ q = λ q x is.
        elim (eq_by_cmp R q e.0) as (λ b. eq_by_cmp R q e.0 ≡ b → key x ≡ q) [
          | true ↦ λ t.
              let none : find R q es ≡ None = subst (λ k. find R k es ≡ None) (sym (same_from_tie R o q e.0 t))
              (find-below_all e.0 es below) in
              absurd (subst T (ap is_some (sym is ∙ none)) tt)
          | false ↦ λ t. at q x (ap (λ b. cond b (Some e.1) (find R q es)) t ∙ is)
        ] refl in
        λ i. (first i, e.1) ∷ rekeyed es (second_of_both (below_all R e.0 es) (is_sorted R es) h) later i

-- a test of two keys answers as their order does, the other way round
turned : {K : Type 0} {R : K → K → Ordering} → IsKeyOrder R → {eq : K → K → Bool}
    → ((x y : K) → eq x y ≡ eq_by_cmp R x y) → (k q : K) → eq k q ≡ eq_by_cmp R q k
turned o ties k q = ties k q ∙ (eq_by_cmp_equiv o.total).symm k q

module _ {K X : Type 0} {R : K → K → Ordering} (o : IsKeyOrder R) {eq : K → K → Bool}
    (ties : (x y : K) → eq x y ≡ eq_by_cmp R x y) where
  find-in_order : (q : K) (es : List (K × X)) → find R q (in_order R es) ≡ lookup (eq q) es
  find-in_order q [] = refl
  find-in_order q (e ∷ es) =
      find-put R o.total q e.0 e.1 (in_order R es) ∙ (λ i. cond (sym (ties q e.0) i) (Some e.1) (find-in_order q es i))

  module _ (key : X → K) (es : List (K × X)) (at_key : (q : K) (x : X) → lookup (eq q) es ≡ Some x → key x ≡ q) where
    keyed-table_of : keyed R key (table_of R es) ≡ in_order R es
    keyed-table_of = rekeyed R o key (in_order R es) (sorted-in_order R o es)
        (λ q x is. at_key q x (sym (find-in_order q es) ∙ is))

    found_in_table : (q : K) → find_row R key q (table_of R es) ≡ lookup (eq q) es
    found_in_table q = find_row-keyed R key q (table_of R es) ∙ ap (find R q) keyed-table_of ∙ find-in_order q es

    rising_table : IsRising R key (table_of R es)
    rising_table = subst (λ fs. T (is_sorted R fs)) (sym keyed-table_of) (sorted-in_order R o es)

  module _ {key : X → K} {es : List (K × X)} (shelf : IsShelf R eq key es) where
    -- the table finds what the map does
    pub find_row-table_of : (q : K) → find_row R key q (table_of R es) ≡ lookup (eq q) es
    find_row-table_of q = found_in_table key es shelf.at_key q

    -- and its keys rise
    pub IsRising-table_of : IsRising R key (table_of R es)
    IsRising-table_of = rising_table key es shelf.at_key

    module _ (row : X) (fs : List (K × X)) (updates : (q : K)
        → lookup (eq q) fs ≡ cond (eq (key row) q) (Some row) (lookup (eq q) es)) where
      at_key-put : (q : K) (x : X) → lookup (eq q) fs ≡ Some x → key x ≡ q
      at_key-put q x is =
          elim (eq (key row) q) as (λ b. eq (key row) q ≡ b → cond b (Some row) (lookup (eq q) es) ≡ Some x → key x ≡ q) [
            | true ↦ λ t found.
                let one : row ≡ x = ap (λ s. unwrap_or s x) found in
                sym (ap key one) ∙ same_from_tie R o (key row) q (sym (ties (key row) q) ∙ t)
            | false ↦ λ t found. shelf.at_key q x found
          ] refl (sym (updates q) ∙ is)

      -- a put in the map puts the row into the table
      pub table_of-put : table_of R fs ≡ put_row R key row (table_of R es)
      table_of-put =
          same_rows R key o (table_of R fs) (put_row R key row (table_of R es)) (rising_table key fs at_key-put)
          (IsRising-put_row R key o row (table_of R es) IsRising-table_of)
          (λ q. found_in_table key fs at_key-put q ∙ updates q ∙
          (λ i. cond (turned o ties (key row) q i) (Some row) (sym (find_row-table_of q) i)) ∙ sym
          (find_row-put_row R key o q row (table_of R es)))

      -- and leaves a shelf
      pub IsShelf-put : length fs ≡ length es + (if is_some (lookup (eq (key row)) es) then 0 else 1)
          → IsShelf R eq key fs
      IsShelf-put len =
          let counted = ap length table_of-put ∙ length-put_row R key o row (table_of R es) IsRising-table_of
          ∙ ap (λ (s : Option X). cond (is_some s) (length (table_of R es)) (length (table_of R es) + 1))
          (find_row-table_of (key row)) in
          let once = shelf.once in
          record {
            at_key = at_key-put;
            once = elim (lookup (eq (key row)) es) as (λ s. length (table_of R fs)
                ≡ cond (is_some s) (length (table_of R es)) (length (table_of R es) + 1)
                → length fs ≡ length es + (if is_some s then 0 else 1) → length (table_of R fs) ≡ length fs) [
                  | None ↦ λ a b. omega arith
                  | Some x ↦ λ a b. omega arith
                ] counted len;
          }

    module _ (k : K) (fs : List (K × X)) (updates : (q : K)
        → lookup (eq q) fs ≡ cond (eq k q) None (lookup (eq q) es)) where
      at_key-remove : (q : K) (x : X) → lookup (eq q) fs ≡ Some x → key x ≡ q
      at_key-remove q x is =
          elim (eq k q) as (λ b. cond b None (lookup (eq q) es) ≡ Some x → key x ≡ q) [
            | true ↦ λ found. absurd (subst T (ap is_some (sym found)) tt)
            | false ↦ λ found. shelf.at_key q x found
          ] (sym (updates q) ∙ is)

      -- a removal from the map takes the row out of the table
      pub table_of-remove : table_of R fs ≡ without_row R key k (table_of R es)
      table_of-remove =
          same_rows R key o (table_of R fs) (without_row R key k (table_of R es)) (rising_table key fs at_key-remove)
          (IsRising-without_row R key k (table_of R es) IsRising-table_of)
          (λ q. found_in_table key fs at_key-remove q ∙ updates q ∙
          (λ i. cond (turned o ties k q i) None (sym (find_row-table_of q) i)) ∙ sym
          (find_row-without_row R key o q k (table_of R es)))

      -- and leaves a shelf
      pub IsShelf-remove : length fs + (if is_some (lookup (eq k) es) then 1 else 0) ≡ length es → IsShelf R eq key fs
      IsShelf-remove len =
          let counted : cond (is_some (lookup (eq k) es)) 1 0 + length (table_of R fs) ≡ length (table_of R es) =
          (λ i. cond (is_some (sym (find_row-table_of k) i)) 1 0 + length (table_of-remove i)) ∙ length-without_row R
          key o k (table_of R es) IsRising-table_of in
          let once = shelf.once in
          record {
            at_key = at_key-remove;
            once = elim (lookup (eq k) es) as (λ s. cond (is_some s) 1 0 + length (table_of R fs)
                ≡ length (table_of R es) → length fs + (if is_some s then 1 else 0) ≡ length es
                → length (table_of R fs) ≡ length fs) [
                  | None ↦ λ a b. omega arith
                  | Some x ↦ λ a b. omega arith
                ] counted len;
          }
