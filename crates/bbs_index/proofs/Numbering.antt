-- The numbers of a map's entries, in the order of their keys, are those of the rows of its table.
use Rattle.std.proofs.Common.{◌≡◌, ◌≢◌, ℕ, suc, ◌+◌, ◌<◌, Bool, true, cond, Decides, List, [], ◌∷◌, ◌++◌, map, length, take, get_or, slice_get, Option, Some, None, refl, sym, ap, subst, ◌∙◌, arith}
use Rattle.std.specs.declared.cmp.Ordering.{Ordering}
use Rattle.std.specs.Cmp.{IsEquivalence}
use Rattle.std.specs.List.{All, AllPairs, IsDistinct}
use Rattle.std.specs.List.Sorted.{IsPermutation, IsSortedByKey}
use Rattle.std.specs.Map.{lookup}
use Rattle.std.specs.Option.{option_map, option_cmp, unwrap_or}
use Rattle.std.specs.Ordering.{is_lt, eq_by_cmp}
use Rattle.std.proofs.lemmas.List.{length-map, get_or-map, map-append, take_more}
use Rattle.std.proofs.lemmas.List.Elements.{All-map}
use Rattle.std.proofs.lemmas.List.Sorted.{IsPermutation-refl, IsPermutation-map, All-permutation, length_permutation}
use Rattle.std.proofs.lemmas.Map.Entries.{lookup_from_place}
use Rattle.std.proofs.lemmas.Map.Made.{AllPairs-from_IsDistinct}
use Rattle.std.proofs.lemmas.Option.{slice_get-map, slice_get-get_or}
use Rattle.row_tables.specs.Table.{IsKeyOrder, find_row, table}
use Rattle.row_tables.proofs.Public.{ties_itself, same_from_tie, find_row-table, IsRising-table, same_rows, table-from_sorted}
use Rattle.bbs_index.specs.Shelf.{table_of, AreNumbered, IsShelf}
use Rattle.bbs_index.proofs.Tables.{find_row-table_of, IsRising-table_of}

-- one number more, in the order of the numbers
pub AreNumbered-more : {X : Type 0} (rows : List X) (numbers more : List ℕ) (n : ℕ)
    → AreNumbered rows numbers (take n rows) → n < length rows → more ≡ numbers ++ n ∷ []
    → AreNumbered rows more (take (n + 1) rows)
AreNumbered-more [] numbers more n are lt is = absurd (omega arith)
AreNumbered-more (x ∷ xs) numbers more n are lt is =
    let rows = x ∷ xs in
    ap (map (slice_get rows)) is ∙ map-append (slice_get rows) numbers (n ∷ [])
    ∙ (λ i. are i ++ slice_get-get_or rows n x lt i ∷ [])
    ∙ sym (map-append (λ y. Some y) (take n rows) (get_or rows n x ∷ [])) ∙ ap (map (λ y. Some y))
    (sym (take_more rows n x lt))

-- what is there, put back under Some
somes : {X : Type 0} (d : X) (ys : List (Option X)) → All (λ s. s ≡ Some (unwrap_or s d)) ys
    → map (λ x. Some x) (map (λ s. unwrap_or s d) ys) ≡ ys
somes d [] h = refl
somes d (y ∷ ys) h = λ i. sym (h 0 None (omega arith)) i ∷ somes d ys (λ k e below. h (suc k) e (omega arith)) i

unwrapped : {X : Type 0} (d : X) (xs : List X) → map (λ s. unwrap_or s d) (map (λ x. Some x) xs) ≡ xs
unwrapped d [] = refl
unwrapped d (x ∷ xs) = ap (λ ys. x ∷ ys) (unwrapped d xs)

all_somes : {X : Type 0} (d : X) (xs : List X) → All (λ s. s ≡ Some (unwrap_or s d)) (map (λ x. Some x) xs)
all_somes d xs = All-map (λ s. s ≡ Some (unwrap_or s d)) (λ x. Some x) xs (λ k e below. refl)

module _ {K X : Type 0} {R : K → K → Ordering} (o : IsKeyOrder R) {eq : K → K → Bool} (laws : IsEquivalence eq)
    (ties : (x y : K) → eq x y ≡ eq_by_cmp R x y) (key : X → K) where
  -- rows that stand under their own keys have the keys of the entries
  keys_own : (es : List (K × X)) → ((i : ℕ) (e : K × X) → slice_get es i ≡ Some e → key e.1 ≡ e.0)
      → map key (map (λ e. e.1) es) ≡ map (λ e. e.0) es
  keys_own [] own = refl
  keys_own (e ∷ es) own = λ i. own 0 e refl i ∷ keys_own es (λ j f is. own (suc j) f is) i

  -- and are found as the entries are
  find_own : (q : K) (es : List (K × X)) → ((i : ℕ) (e : K × X) → slice_get es i ≡ Some e → key e.1 ≡ e.0)
      → find_row R key q (map (λ e. e.1) es) ≡ lookup (eq q) es
  find_own q [] own = refl
  find_own q (e ∷ es) own =
      let test : eq_by_cmp R q (key e.1) ≡ eq q e.0 = ap (eq_by_cmp R q) (own 0 e refl) ∙ sym (ties q e.0) in
      λ i. cond (test i) (Some e.1) (find_own q es (λ j f is. own (suc j) f is) i)

  decides : (a b : K) → Decides (eq a b) (a ≡ b)
  decides a b = (
    λ e. same_from_tie R o a b (sym (ties a b) ∙ e),
    λ e.
        ties a b ∙ subst (λ k. eq_by_cmp R a k ≡ true) e (ties_itself R o a),
  )

  module _ (es : List (K × X)) (shelf : IsShelf R eq key es) (unique : IsDistinct eq (map (λ e. e.0) es)) where
    abbrev rows : List X
    rows = map (λ e. e.1) es

    own : (i : ℕ) (e : K × X) → slice_get es i ≡ Some e → key e.1 ≡ e.0
    own i e is = shelf.at_key e.0 e.1 (lookup_from_place laws es i e.0 e.1 unique is)

    -- the rows in the order of their keys are the table of the entries
    table-rows : table R key rows ≡ table_of R es
    table-rows =
        same_rows R key o (table R key rows) (table_of R es) (IsRising-table R key o rows)
        (IsRising-table_of o ties shelf)
        (λ q. find_row-table R key o q rows ∙ find_own q es own ∙ sym (find_row-table_of o ties shelf q))

    differ : AllPairs (λ a b. a ≢ b) (map key rows)
    differ = subst (AllPairs (λ a b. a ≢ b)) (sym (keys_own es own))
        (AllPairs-from_IsDistinct decides (map (λ e. e.0) es) unique)

    -- and where the rows are in that order by their numbers, they are the table
    pub rows-sorted : IsSortedByKey key R rows → rows ≡ table_of R es
    rows-sorted sorted = table-from_sorted R key o rows rows differ sorted (IsPermutation-refl rows) ∙ table-rows

    by_entry : (n : ℕ) (x : X) (entry : Option (K × X)) → slice_get es n ≡ entry → option_map (λ e. e.1) entry ≡ Some x
        → option_map (λ e. e.0) entry ≡ Some (key x)
    by_entry n x None there is = cc
    by_entry n x (Some e) there is =
        let same : e.1 ≡ x = ap (λ s. unwrap_or s x) is in
        ap (λ k. Some k) (sym (own n e there) ∙ ap key same)

    -- the key at a number is that of the row there
    key_there : (n : ℕ) (x : X) → slice_get rows n ≡ Some x → option_map (λ e. e.0) (slice_get es n) ≡ Some (key x)
    key_there n x is = by_entry n x (slice_get es n) refl (sym (slice_get-map (λ e. e.1) es n) ∙ is)

    key_of : (n : ℕ) (x : X) → n < length rows → slice_get (map (λ e. e.0) es) n ≡ Some (key (get_or rows n x))
    key_of n x lt = slice_get-map (λ e. e.0) es n ∙ key_there n (get_or rows n x) (slice_get-get_or rows n x lt)

    -- the keys at two numbers compare as those of the rows there
    pub keys_compare : (keys : List K) → keys ≡ map (λ e. e.0) es → (m n : ℕ) (x : X) → m < length rows
        → n < length rows
        → option_cmp R (slice_get keys m) (slice_get keys n) ≡ R (key (get_or rows m x)) (key (get_or rows n x))
    keys_compare keys are m n x low high =
        (λ i. option_cmp R (slice_get (are i) m) (slice_get (are i) n)) ∙
        (λ i. option_cmp R (key_of m x low i) (key_of n x high i))

    module _ (d : X) (numbers order : List ℕ) (are : AreNumbered rows numbers rows)
        (moved : IsPermutation numbers order)
        (sorted : IsSortedByKey (λ n. option_map (λ e. e.0) (slice_get es n)) (option_cmp R) order) where
      abbrev row_at : ℕ → X
      row_at n = unwrap_or (slice_get rows n) d

      abbrev found : List (Option X)
      found = map (slice_get rows) order

      moved_found : IsPermutation (map (λ x. Some x) rows) found
      moved_found = subst (λ ys. IsPermutation ys found) are (IsPermutation-map (slice_get rows) numbers order moved)

      all_found : All (λ s. s ≡ Some (unwrap_or s d)) found
      all_found = All-permutation (λ s. s ≡ Some (unwrap_or s d)) (map (λ x. Some x) rows) found moved_found
          (all_somes d rows)

      abbrev ordered : List X
      ordered = map (λ s. unwrap_or s d) found

      moved_rows : IsPermutation rows ordered
      moved_rows = subst (λ xs. IsPermutation xs ordered) (unwrapped d rows)
          (IsPermutation-map (λ s. unwrap_or s d) (map (λ x. Some x) rows) found moved_found)

      at_place : (k : ℕ) → k < length order → slice_get rows (get_or order k 0) ≡ Some (row_at (get_or order k 0))
      at_place k below =
          let inside : k < length found = simp length-map below in
          subst (λ s. s ≡ Some (unwrap_or s d)) (get_or-map (slice_get rows) order k 0 None below)
          (all_found k None inside)

      row_there : (k : ℕ) (e : X) → k < length order → get_or ordered k e ≡ row_at (get_or order k 0)
      row_there k e below =
          let inside : k < length found = simp length-map below in
          get_or-map (λ s. unwrap_or s d) found k None e inside ∙ ap (λ s. unwrap_or s d)
          (get_or-map (slice_get rows) order k 0 None below)

      sorted_rows : IsSortedByKey key R ordered
      sorted_rows k e from below =
          let within : k + 1 < length order = omega (
            arith,
            below,
            length-map found (λ s. unwrap_or s d),
            length-map order (slice_get rows),
          ) in
          let low : k < length order = omega (arith, within) in
          let a = key_there (get_or order (k + 1) 0) (row_at (get_or order (k + 1) 0)) (at_place (k + 1) within) in
          let b = key_there (get_or order k 0) (row_at (get_or order k 0)) (at_place k low) in
          (λ i. is_lt (R (key (row_there (k + 1) e within i)) (key (row_there k e low i))))
          ∙ (λ i. is_lt (option_cmp R (sym a i) (sym b i))) ∙ sorted k 0 from within

      AreNumbered-ordered : AreNumbered rows order (table_of R es)
      AreNumbered-ordered =
          sym (somes d found all_found) ∙ ap (map (λ x. Some x))
          (table-from_sorted R key o rows ordered differ sorted_rows moved_rows ∙ table-rows)

nothing : (order : List ℕ) → IsPermutation [] order → order ≡ []
nothing [] moved = refl
nothing (n ∷ ns) moved = let long = length_permutation [] (n ∷ ns) moved in absurd (omega (arith, long))

module _ {K X : Type 0} {R : K → K → Ordering} (o : IsKeyOrder R) {eq : K → K → Bool} (laws : IsEquivalence eq)
    (ties : (x y : K) → eq x y ≡ eq_by_cmp R x y) (key : X → K) where
  pub AreNumbered-sorted : (es : List (K × X)) → IsShelf R eq key es → IsDistinct eq (map (λ e. e.0) es)
      → (numbers order : List ℕ) → AreNumbered (map (λ e. e.1) es) numbers (map (λ e. e.1) es)
      → IsPermutation numbers order
      → IsSortedByKey (λ n. option_map (λ e. e.0) (slice_get es n)) (option_cmp R) order
      → AreNumbered (map (λ e. e.1) es) order (table_of R es)
  AreNumbered-sorted [] shelf unique [] order are moved sorted = ap (map (slice_get [])) (nothing order moved)
  AreNumbered-sorted [] shelf unique (n ∷ ns) order are moved sorted = cc
  AreNumbered-sorted (e ∷ es) shelf unique numbers order are moved sorted =
      AreNumbered-ordered o laws ties key (e ∷ es) shelf unique e.1 numbers order are moved sorted

  -- the same where the keys are told as a list
  pub AreNumbered-by_keys : (es : List (K × X)) → IsShelf R eq key es → IsDistinct eq (map (λ e. e.0) es)
      → (keys : List K) → keys ≡ map (λ e. e.0) es → (numbers order : List ℕ)
      → AreNumbered (map (λ e. e.1) es) numbers (map (λ e. e.1) es) → IsPermutation numbers order
      → IsSortedByKey (slice_get keys) (option_cmp R) order → AreNumbered (map (λ e. e.1) es) order (table_of R es)
  AreNumbered-by_keys es shelf unique keys is numbers order are moved sorted =
      let by_entry : (n : ℕ) → slice_get keys n ≡ option_map (λ e. e.0) (slice_get es n) = λ n.
      ap (λ ks. slice_get ks n) is ∙ slice_get-map (λ e. e.0) es n in
      AreNumbered-sorted es shelf unique numbers order are moved
      (subst (λ k. IsSortedByKey k (option_cmp R) order) (λ i n. by_entry n i) sorted)
