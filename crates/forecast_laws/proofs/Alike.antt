-- Elements of lists: what is kept of them, and that lists of the same elements have one table.
use Rattle.std.proofs.Common.{◌≡◌, zero, suc, true, false, cond, List, [], ◌∷◌, filter_map, Option, Some, None, refl, sym, ap, subst, ◌∙◌, arith}
use Rattle.std.specs.List.{AllZip, Contains, cons_option}
use Rattle.std.specs.Ordering.{eq_by_cmp}
use Rattle.std.specs.declared.cmp.Ordering.{Ordering}
use Rattle.converge_laws.proofs.Public.{inside_first, inside_rest}
use Rattle.row_tables.specs.Table.{IsKeyOrder, find_row, table}
use Rattle.row_tables.proofs.Public.{Contains-find_row, find_row-table, key-find_row, same_rows, ties_itself, IsRising-table}
use Rattle.forecast_laws.specs.Plans.{HaveTheSame}

pub some_one : {X : Type 0} (x y : X) → Some x ≡ Some y → x ≡ y
some_one x y e = cc

-- a list that has no element is empty
pub none_inside : {X : Type 0} (xs : List X) → ((x : X) → Contains xs x → ⊥) → xs ≡ []
none_inside [] h = refl
none_inside (x ∷ xs) h = absurd (h x (inside_first x xs))

-- what an element comes to stands among what is kept
pub kept_inside : {X Y : Type 0} (f : X → Option Y) (xs : List X) (x : X) (y : Y) → Contains xs x → f x ≡ Some y
    → Contains (filter_map f xs) y
kept_inside f [] x y (k, lt, at) e = absurd (omega arith)
kept_inside {Y = Y} f (z ∷ xs) x y (zero, lt, at) e =
    subst (λ (o : Option Y). Contains (cons_option o (filter_map f xs)) y) (sym (ap f at ∙ e))
    (inside_first y (filter_map f xs))
kept_inside {Y = Y} f (z ∷ xs) x y (suc k, lt, at) e =
    let rest = kept_inside f xs x y (k, omega arith, at) e in
    elim (f z) as (λ (o : Option Y). Contains (cons_option o (filter_map f xs)) y) [
      | None ↦ rest
      | (Some w) ↦ inside_rest y w (filter_map f xs) rest
    ]

module _ {X Y : Type 0} (R : X → Y → Type 0) where
  -- what stands among the first of two lists that agree place by place agrees with one among the others
  pub zip_there : (xs : List X) (ys : List Y) (x : X) → AllZip R xs ys → Contains xs x → (y : Y) × Contains ys y × R x y
  zip_there [] ys x h (k, lt, at) = absurd (omega arith)
  zip_there (z ∷ xs) [] x h inside = absurd h
  zip_there (z ∷ xs) (y ∷ ys) x h (zero, lt, at) = (y, inside_first y ys, subst (λ (a : X). R a y) at h.0)
  zip_there (z ∷ xs) (y ∷ ys) x h (suc k, lt, at) =
      let rest = zip_there xs ys x h.1 (k, omega arith, at) in
      (rest.0, inside_rest rest.0 y ys rest.1, rest.2)

  -- and so they agree in what follows
  pub zip_more : (Q : X → Y → Type 0) (xs : List X) (ys : List Y)
      → ((x : X) (y : Y) → Contains ys y → R x y → Q x y) → AllZip R xs ys → AllZip Q xs ys
  zip_more Q [] [] f h = tt
  zip_more Q [] (y ∷ ys) f h = absurd h
  zip_more Q (x ∷ xs) [] f h = absurd h
  zip_more Q (x ∷ xs) (y ∷ ys) f h =
      (f x y (inside_first y ys) h.0, zip_more Q xs ys (λ a b inside. f a b (inside_rest b y ys inside)) h.1)

module _ {K X : Type 0} (R : K → K → Ordering) (key : X → K) (o : IsKeyOrder R) where
  -- a row that is there is not missed at its key
  not_missed : (x : X) (xs : List X) → Contains xs x → find_row R key (key x) xs ≡ None → ⊥
  not_missed x [] (k, lt, at) e = absurd (omega arith)
  not_missed x (y ∷ ys) (zero, lt, at) e =
      let found : find_row R key (key x) (y ∷ ys) ≡ Some y =
      ap (λ z. cond (eq_by_cmp R (key z) (key y)) (Some y) (find_row R key (key x) ys)) (sym at)
      ∙ ap (λ b. cond b (Some y) (find_row R key (key x) ys)) (ties_itself R o (key y)) in
      cc
  not_missed x (y ∷ ys) (suc k, lt, at) e =
      elim (eq_by_cmp R (key x) (key y)) as (λ b. cond b (Some y) (find_row R key (key x) ys) ≡ None → ⊥) [
        | true ↦ λ is. cc
        | false ↦ λ is. not_missed x ys (k, omega arith, at) is
      ] e

  module _ (xs ys : List X) (one : (x y : X) → Contains ys x → Contains ys y → key x ≡ key y → x ≡ y)
      (same : HaveTheSame xs ys) where
    -- the only row of its key is found
    found_there : (x : X) → Contains ys x → find_row R key (key x) ys ≡ Some x
    found_there x inside =
        elim (find_row R key (key x) ys) as (λ (f : Option X). find_row R key (key x) ys ≡ f → f ≡ Some x) [
          | None ↦ λ e. absurd (not_missed x ys inside e)
          | (Some y) ↦ λ e. ap Some (one y x (Contains-find_row R key (key x) y ys e) inside
              (key-find_row R key o (key x) y ys e))
        ] refl

    found_alike : (k : K) → find_row R key k xs ≡ find_row R key k ys
    found_alike k =
        elim (find_row R key k xs) as (λ (f : Option X). find_row R key k xs ≡ f → f ≡ find_row R key k ys) [
          | None ↦ λ none. elim (find_row R key k ys) as (λ (g : Option X). find_row R key k ys ≡ g → None ≡ g) [
            | None ↦ λ e. refl
            | (Some y) ↦ λ e.
                let has : key y ≡ k = key-find_row R key o k y ys e in
                absurd (not_missed y xs (same.back y (Contains-find_row R key k y ys e))
                (subst (λ q. find_row R key q xs ≡ None) (sym has) none))
          ] refl
          | (Some x) ↦ λ e.
              let has : key x ≡ k = key-find_row R key o k x xs e in
              sym (subst (λ q. find_row R key q ys ≡ Some x) has
              (found_there x (same.there x (Contains-find_row R key k x xs e))))
        ] refl

    -- rows that are the same, of which each is the only one of its key, have one table
    pub table-of_same : table R key xs ≡ table R key ys
    table-of_same =
        same_rows R key o (table R key xs) (table R key ys) (IsRising-table R key o xs) (IsRising-table R key o ys)
        (λ k. find_row-table R key o k xs ∙ found_alike k ∙ sym (find_row-table R key o k ys))
