-- Lists of which no two elements have one key, and what holds of all rows of a table.
use Rattle.std.proofs.Common.{◌≡◌, ◌≢◌, ℕ, zero, suc, ◌+◌, ◌≤◌, Bool, true, false, cond, List, [], ◌∷◌, ◌++◌, length, map, Some, None, refl, sym, ap, subst, ◌∙◌, arith}
use Rattle.std.specs.Cmp.{tied_itself}
use Rattle.std.specs.FinMap.Entries.{by_order}
use Rattle.std.specs.List.{All, AllPairs, Contains, sum_by}
use Rattle.std.specs.Ordering.{eq_by_cmp}
use Rattle.std.specs.declared.cmp.Ordering.{Ordering}
use Rattle.std.specs.declared.cmp.Ordering.TheVariants.{Less, Equal, Greater}
use Rattle.std.proofs.lemmas.List.{get_or-map, length-map}
use Rattle.std.proofs.lemmas.List.Elements.{All-append, All-cons, All-contains, All-head, All-map, All-nil, All-tail, All-weaker, Contains-append_right}
use Rattle.std.proofs.lemmas.List.Kept.{AllPairs-cons}
use Rattle.std.proofs.lemmas.List.Sums.{sum_by-cons}
use Rattle.row_tables.specs.Table.{find_row, put_row, table, IsKeyOrder, IsRising}
use Rattle.row_tables.proofs.Public.{All-above, All-put_row, Contains-find_row, below_rest, find_row-table, length-put_row_new, same_from_tie, ties_itself, IsRising-table, IsRising-tail}

-- no two are one
abbrev pub Differ : {X : Type 0} → List X → Type 0
Differ xs = AllPairs (λ a b. a ≢ b) xs

pub differ-none : {X : Type 0} → Differ {X = X} []
differ-none i j d lt below = absurd (omega arith)

-- the first differs from the others, and these from one another
pub head-differs : {X : Type 0} (x : X) (xs : List X) → Differ (x ∷ xs) → All (λ y. x ≢ y) xs
head-differs x xs h k d below = h 0 (suc k) d (omega arith) (omega arith)

pub tail-differs : {X : Type 0} (x : X) (xs : List X) → Differ (x ∷ xs) → Differ xs
tail-differs x xs h i j d lt below = h (suc i) (suc j) d (omega arith) (omega arith)

-- two lists behind one another
pub differ-append : {X : Type 0} (xs ys : List X) → Differ xs → Differ ys → All (λ x. All (λ y. x ≢ y) ys) xs
    → Differ (xs ++ ys)
differ-append [] ys hx hy apart = hy
differ-append (x ∷ xs) ys hx hy apart =
    AllPairs-cons (λ a b. a ≢ b) x (xs ++ ys)
    (All-append (λ y. x ≢ y) xs ys (head-differs x xs hx) (All-head (λ a. All (λ y. a ≢ y) ys) x xs apart))
    (differ-append xs ys (tail-differs x xs hx) hy (All-tail (λ a. All (λ y. a ≢ y) ys) x xs apart))

-- what is made of an element stands among what is made
pub Contains-mapped : {X Y : Type 0} (f : X → Y) (xs : List X) (x : X) → Contains xs x → Contains (map f xs) (f x)
Contains-mapped f xs x (k, lt, at) = (k, simp length-map lt, get_or-map f xs k x (f x) lt ∙ ap f at)

-- of two lists behind one another each differs, and what stands in one from what stands in the other
module _ {X A : Type 0} (f : X → A) where
  all_front : (P : A → Type 0) (xs ys : List X) → All P (map f (xs ++ ys)) → All P (map f xs)
  all_front P [] ys h = All-nil P
  all_front P (x ∷ xs) ys h =
      All-cons P (f x) (map f xs) (All-head P (f x) (map f (xs ++ ys)) h)
      (all_front P xs ys (All-tail P (f x) (map f (xs ++ ys)) h))

  pub differ-front : (xs ys : List X) → Differ (map f (xs ++ ys)) → Differ (map f xs)
  differ-front [] ys h = differ-none
  differ-front (x ∷ xs) ys h =
      AllPairs-cons (λ a b. a ≢ b) (f x) (map f xs)
      (all_front (λ a. f x ≢ a) xs ys (head-differs (f x) (map f (xs ++ ys)) h))
      (differ-front xs ys (tail-differs (f x) (map f (xs ++ ys)) h))

  pub differ-parts : (xs ys : List X) (a b : X) → Differ (map f (xs ++ ys)) → Contains xs a → Contains ys b → f a ≢ f b
  differ-parts [] ys a b h (k, lt, at) there = absurd (omega arith)
  differ-parts (x ∷ xs) ys a b h (zero, lt, at) there =
      subst (λ (z : X). f z ≢ f b) at
      (All-contains (λ c. f x ≢ c) (map f (xs ++ ys)) (f b) (head-differs (f x) (map f (xs ++ ys)) h)
      (Contains-mapped f (xs ++ ys) b (Contains-append_right xs ys b there)))
  differ-parts (x ∷ xs) ys a b h (suc k, lt, at) there =
      differ-parts xs ys a b (tail-differs (f x) (map f (xs ++ ys)) h) (k, omega arith, at) there

-- what tells elements apart by one thing tells them apart by another that shows it
module _ {X A B : Type 0} (f : X → A) (g : X → B) (shows : (x y : X) → g x ≡ g y → f x ≡ f y) where
  all_apart : (x : X) (ys : List X) → All (λ a. f x ≢ a) (map f ys) → All (λ b. g x ≢ b) (map g ys)
  all_apart x [] h = All-nil (λ b. g x ≢ b)
  all_apart x (y ∷ ys) h =
      All-cons (λ b. g x ≢ b) (g y) (map g ys)
      (λ same. All-head (λ a. f x ≢ a) (f y) (map f ys) h (shows x y same))
      (all_apart x ys (All-tail (λ a. f x ≢ a) (f y) (map f ys) h))

  pub differ-by : (xs : List X) → Differ (map f xs) → Differ (map g xs)
  differ-by [] h = differ-none
  differ-by (x ∷ xs) h =
      AllPairs-cons (λ a b. a ≢ b) (g x) (map g xs)
      (all_apart x xs (head-differs (f x) (map f xs) h))
      (differ-by xs (tail-differs (f x) (map f xs) h))

module _ {K X : Type 0} (R : K → K → Ordering) (key : X → K) (o : IsKeyOrder R) where
  less-differs : (a b : K) → R a b ≡ Less → a ≢ b
  less-differs a b less e =
      let tie : R a b ≡ Equal = subst (λ c. R a c ≡ Equal) e (tied_itself o.total a) in
      cc

  -- rising keys differ
  pub differ-from_rising : (xs : List X) → IsRising R key xs → Differ (map key xs)
  differ-from_rising [] h = differ-none
  differ-from_rising (x ∷ xs) h =
      AllPairs-cons (λ a b. a ≢ b) (key x) (map key xs)
      (All-map (λ k. key x ≢ k) key xs
      (All-weaker (λ y. R (key x) (key y) ≡ Less) (λ y. key x ≢ key y) (λ y. less-differs (key x) (key y)) xs
      (All-above R key (key x) xs (below_rest R key x xs h))))
      (differ-from_rising xs (IsRising-tail R key x xs h))

  no_tie : (a b : K) → a ≢ b → eq_by_cmp R a b ≡ false
  no_tie a b apart =
      elim (eq_by_cmp R a b) as (λ t. eq_by_cmp R a b ≡ t → t ≡ false) [
        | true ↦ λ e. absurd (apart (same_from_tie R o a b e))
        | false ↦ λ e. refl
      ] refl

  -- a key that no row has isn't found
  pub absent_row : (k : K) (xs : List X) → All (λ a. k ≢ a) (map key xs) → find_row R key k xs ≡ None
  absent_row k [] h = refl
  absent_row k (x ∷ xs) h =
      ap (λ (b : Bool). cond b (Some x) (find_row R key k xs))
      (no_tie k (key x) (All-head (λ a. k ≢ a) (key x) (map key xs) h))
      ∙ absent_row k xs (All-tail (λ a. k ≢ a) (key x) (map key xs) h)

  -- and one that a row has is, where no two rows have one key
  found : (x : X) (xs : List X) → Differ (map key xs) → Contains xs x → find_row R key (key x) xs ≡ Some x
  found x [] differ (k, lt, at) = absurd (omega arith)
  found x (y ∷ ys) differ (zero, lt, at) =
      ap (λ (z : X). cond (eq_by_cmp R (key x) (key z)) (Some z) (find_row R key (key x) ys)) at
      ∙ ap (λ (b : Bool). cond b (Some x) (find_row R key (key x) ys)) (ties_itself R o (key x))
  found x (y ∷ ys) differ (suc k, lt, at) =
      let inside : Contains ys x = (k, omega arith, at) in
      let apart : key y ≢ key x = All-contains (λ a. key y ≢ a) (map key ys) (key x)
      (head-differs (key y) (map key ys) differ) (Contains-mapped key ys x inside) in
      ap (λ (b : Bool). cond b (Some y) (find_row R key (key x) ys)) (no_tie (key x) (key y) (λ e. apart (sym e)))
      ∙ found x ys (tail-differs (key y) (map key ys) differ) inside

  -- a row of unlike keys is in the table
  pub Contains-table : (x : X) (xs : List X) → Differ (map key xs) → Contains xs x → Contains (table R key xs) x
  Contains-table x xs differ inside =
      Contains-find_row R key (key x) x (table R key xs) (find_row-table R key o (key x) xs ∙ found x xs differ inside)

  -- a table of unlike keys has as many rows
  pub length-table : (xs : List X) → Differ (map key xs) → length (table R key xs) ≡ length xs
  length-table [] h = refl
  length-table (x ∷ xs) h =
      let none : find_row R key (key x) (table R key xs) ≡ None =
      find_row-table R key o (key x) xs ∙ absent_row (key x) xs (head-differs (key x) (map key xs) h) in
      let one : length (put_row R key x (table R key xs)) ≡ length (table R key xs) + 1 =
      length-put_row_new R key o x (table R key xs) (IsRising-table R key o xs) none in
      let rest : length (table R key xs) ≡ length xs = length-table xs (tail-differs (key x) (map key xs) h) in
      omega arith

module _ {K X : Type 0} (R : K → K → Ordering) (key : X → K) where
  -- what holds of each row holds of those of the table
  pub All-table : (P : X → Type 0) (xs : List X) → All P xs → All P (table R key xs)
  All-table P [] h = h
  All-table P (x ∷ xs) h = All-put_row R key P x (table R key xs) (All-head P x xs h)
      (All-table P xs (All-tail P x xs h))

  put_adds : (f : X → ℕ) (x : X) (xs : List X) → sum_by f (put_row R key x xs) ≤ f x + sum_by f xs
  put_adds f x [] = omega (arith, sum_by-cons f x [])
  put_adds f x (y ∷ ys) =
      let whole : sum_by f (y ∷ ys) ≡ f y + sum_by f ys = sum_by-cons f y ys in
      elim (R (key x) (key y)) as (λ c. sum_by f (by_order c (x ∷ y ∷ ys) (x ∷ ys) (y ∷ put_row R key x ys))
      ≤ f x + sum_by f (y ∷ ys)) [
        | Less ↦ omega (arith, sum_by-cons f x (y ∷ ys))
        | Equal ↦ omega (arith, sum_by-cons f x ys)
        | Greater ↦ omega (arith, sum_by-cons f y (put_row R key x ys), put_adds f x ys)
      ]

  -- the rows of a table add up to no more than all rows
  pub sum-table : (f : X → ℕ) (xs : List X) → sum_by f (table R key xs) ≤ sum_by f xs
  sum-table f [] = omega arith
  sum-table f (x ∷ xs) =
      let rest = sum-table f xs in
      omega (arith, put_adds f x (table R key xs), rest, sum_by-cons f x xs)
