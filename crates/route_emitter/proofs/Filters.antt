-- A filter of a table, and what a put and a removal do to it.
use Rattle.std.proofs.Common.{◌≡◌, Bool, true, false, T, cond, List, [], ◌∷◌, Option, Some, None, refl, sym, ap, ◌∙◌}
use Rattle.std.specs.Cmp.{tied_itself}
use Rattle.std.specs.declared.cmp.Ordering.{Ordering}
use Rattle.std.specs.declared.cmp.Ordering.TheVariants.{Less, Equal}
use Rattle.std.specs.FinMap.Entries.{below_all, is_sorted}
use Rattle.std.specs.Ordering.{eq_by_cmp, is_lt}
use Rattle.std.specs.Prelude.{filter}
use Rattle.std.proofs.lemmas.List.Elements.{All-contains}
use Rattle.row_tables.specs.Table.{IsKeyOrder, find_row, put_row, without_row, keyed, IsRising}
use Rattle.row_tables.proofs.Public.{All-above, Contains-find_row, key-find_row, same_rows, same_from_tie, find_row-put_row, find_row-without_row, both_parts, first_of_both, second_of_both, below_rest, IsRising-tail, IsRising-put_row, IsRising-without_row}

-- what is found, if it passes
abbrev pub if_it_passes : {X : Type 0} → (X → Bool) → Option X → Option X
if_it_passes p None = None
if_it_passes p (Some x) = cond (p x) (Some x) None

module _ {K X : Type 0} (R : K → K → Ordering) (key : X → K) where
  below_all-filter : (p : X → Bool) (k : K) (xs : List X) → T (below_all R k (keyed R key xs))
      → T (below_all R k (keyed R key (filter p xs)))
  below_all-filter p k [] h = tt
  below_all-filter p k (x ∷ xs) h =
      let first = first_of_both (is_lt (R k (key x))) (below_all R k (keyed R key xs)) h in
      let rest = below_all-filter p k xs (second_of_both (is_lt (R k (key x))) (below_all R k (keyed R key xs)) h) in
      elim (p x) as (λ b. T (below_all R k (keyed R key (cond b (x ∷ filter p xs) (filter p xs))))) [
        | true ↦ both_parts (is_lt (R k (key x))) (below_all R k (keyed R key (filter p xs))) first rest
        | false ↦ rest
      ]

  -- what a filter leaves of a table is one
  pub IsRising-filter : (p : X → Bool) (xs : List X) → IsRising R key xs → IsRising R key (filter p xs)
  IsRising-filter p [] h = tt
  IsRising-filter p (x ∷ xs) h =
      let rest = IsRising-filter p xs (IsRising-tail R key x xs h) in
      elim (p x) as (λ b. IsRising R key (cond b (x ∷ filter p xs) (filter p xs))) [
        | true ↦ both_parts (below_all R (key x) (keyed R key (filter p xs))) (is_sorted R (keyed R key (filter p xs)))
            (below_all-filter p (key x) xs (below_rest R key x xs h)) rest
        | false ↦ rest
      ]

module _ {K X : Type 0} (R : K → K → Ordering) (key : X → K) (o : IsKeyOrder R) where
  -- behind the row of a key none has that key
  pub none_behind : (q : K) (y : X) (ys : List X) → IsRising R key (y ∷ ys) → eq_by_cmp R q (key y) ≡ true
      → find_row R key q ys ≡ None
  none_behind q y ys h tie =
      elim (find_row R key q ys) as (λ (s : Option X). find_row R key q ys ≡ s → s ≡ None) [
        | None ↦ λ e. refl
        | (Some z) ↦ λ e.
            let above : R (key y) (key z) ≡ Less = All-contains (λ x. R (key y) (key x) ≡ Less) ys z
            (All-above R key (key y) ys (below_rest R key y ys h)) (Contains-find_row R key q z ys e) in
            let one : key z ≡ key y = key-find_row R key o q z ys e ∙ same_from_tie R o q (key y) tie in
            let same : R (key y) (key z) ≡ Equal = ap (R (key y)) one ∙ tied_itself o.total (key y) in
            cc
      ] refl

  pub find_row-filter : (p : X → Bool) (q : K) (xs : List X) → IsRising R key xs
      → find_row R key q (filter p xs) ≡ if_it_passes p (find_row R key q xs)
  find_row-filter p q [] h = refl
  find_row-filter p q (y ∷ ys) h =
      let rest = find_row-filter p q ys (IsRising-tail R key y ys h) in
      let kept = filter p ys in
      elim (eq_by_cmp R q (key y)) as (λ b. eq_by_cmp R q (key y) ≡ b
      → find_row R key q (cond (p y) (y ∷ kept) kept) ≡ if_it_passes p (cond b (Some y) (find_row R key q ys))) [
        | true ↦ λ e. elim (p y) as (λ b. find_row R key q (cond b (y ∷ kept) kept) ≡ cond b (Some y) None) [
          | true ↦ ap (λ b. cond b (Some y) (find_row R key q kept)) e
          | false ↦ rest ∙ ap (if_it_passes p) (none_behind q y ys h e)
        ]
        | false ↦ λ e. elim (p y) as (λ b. find_row R key q (cond b (y ∷ kept) kept)
            ≡ if_it_passes p (find_row R key q ys)) [
              | true ↦ ap (λ b. cond b (Some y) (find_row R key q kept)) e ∙ rest
              | false ↦ rest
            ]
      ] refl

  passes_first : (p : X → Bool) (x : X) (b : Bool) (s : Option X) → p x ≡ true
      → if_it_passes p (cond b (Some x) s) ≡ cond b (Some x) (if_it_passes p s)
  passes_first p x true s is = ap (λ c. cond c (Some x) None) is
  passes_first p x false s is = refl

  fails_first : (p : X → Bool) (x : X) (b : Bool) (s : Option X) → p x ≡ false
      → if_it_passes p (cond b (Some x) s) ≡ cond b None (if_it_passes p s)
  fails_first p x true s is = ap (λ c. cond c (Some x) None) is
  fails_first p x false s is = refl

  passes_not : (p : X → Bool) (b : Bool) (s : Option X) → if_it_passes p (cond b None s)
      ≡ cond b None (if_it_passes p s)
  passes_not p true s = refl
  passes_not p false s = refl

  -- a row that passes is put into what is kept, and in the place of one that fails none is kept
  pub filter-put_passing : (p : X → Bool) (x : X) (xs : List X) → IsRising R key xs → p x ≡ true
      → filter p (put_row R key x xs) ≡ put_row R key x (filter p xs)
  filter-put_passing p x xs h is =
      same_rows R key o (filter p (put_row R key x xs)) (put_row R key x (filter p xs))
      (IsRising-filter R key p (put_row R key x xs) (IsRising-put_row R key o x xs h))
      (IsRising-put_row R key o x (filter p xs) (IsRising-filter R key p xs h))
      (λ q. find_row-filter p q (put_row R key x xs) (IsRising-put_row R key o x xs h) ∙ ap (if_it_passes p)
      (find_row-put_row R key o q x xs)
      ∙ passes_first p x (eq_by_cmp R q (key x)) (find_row R key q xs) is
      ∙ ap (cond (eq_by_cmp R q (key x)) (Some x)) (sym (find_row-filter p q xs h)) ∙ sym
      (find_row-put_row R key o q x (filter p xs)))

  pub filter-put_failing : (p : X → Bool) (x : X) (xs : List X) → IsRising R key xs → p x ≡ false
      → filter p (put_row R key x xs) ≡ without_row R key (key x) (filter p xs)
  filter-put_failing p x xs h is =
      same_rows R key o (filter p (put_row R key x xs)) (without_row R key (key x) (filter p xs))
      (IsRising-filter R key p (put_row R key x xs) (IsRising-put_row R key o x xs h))
      (IsRising-without_row R key (key x) (filter p xs) (IsRising-filter R key p xs h))
      (λ q. find_row-filter p q (put_row R key x xs) (IsRising-put_row R key o x xs h) ∙ ap (if_it_passes p)
      (find_row-put_row R key o q x xs)
      ∙ fails_first p x (eq_by_cmp R q (key x)) (find_row R key q xs) is
      ∙ ap (cond (eq_by_cmp R q (key x)) None) (sym (find_row-filter p q xs h)) ∙ sym
      (find_row-without_row R key o q (key x) (filter p xs)))

  pub filter-put_row : (p : X → Bool) (x : X) (xs : List X) → IsRising R key xs
      → cond (p x) (put_row R key x (filter p xs)) (without_row R key (key x) (filter p xs))
      ≡ filter p (put_row R key x xs)
  filter-put_row p x xs h =
      elim (p x) as (λ b. p x ≡ b → cond b (put_row R key x (filter p xs)) (without_row R key (key x) (filter p xs))
      ≡ filter p (put_row R key x xs)) [
        | true ↦ λ is. sym (filter-put_passing p x xs h is)
        | false ↦ λ is. sym (filter-put_failing p x xs h is)
      ] refl

  pub filter-without_row : (p : X → Bool) (k : K) (xs : List X) → IsRising R key xs
      → without_row R key k (filter p xs) ≡ filter p (without_row R key k xs)
  filter-without_row p k xs h =
      sym (same_rows R key o (filter p (without_row R key k xs)) (without_row R key k (filter p xs))
      (IsRising-filter R key p (without_row R key k xs) (IsRising-without_row R key k xs h))
      (IsRising-without_row R key k (filter p xs) (IsRising-filter R key p xs h))
      (λ q. find_row-filter p q (without_row R key k xs) (IsRising-without_row R key k xs h) ∙ ap (if_it_passes p)
      (find_row-without_row R key o q k xs)
      ∙ passes_not p (eq_by_cmp R q k) (find_row R key q xs)
      ∙ ap (cond (eq_by_cmp R q k) None) (sym (find_row-filter p q xs h)) ∙ sym
      (find_row-without_row R key o q k (filter p xs))))
