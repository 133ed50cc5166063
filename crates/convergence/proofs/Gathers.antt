-- What stands in lists that are made of others, and how they rise.
use Rattle.std.proofs.Common.{◌≡◌, ℕ, zero, suc, ◌<◌, T, List, [], ◌∷◌, ◌++◌, map, Option, Some, None, refl, sym, ap, subst, ◌∙◌, ◌⊎◌, inl, inr, ⊎_elim, zero-add, arith}
use Rattle.std.proofs.lemmas.List.FromFn.{length-range_with_len, get_or-range_with_len}
use Rattle.std.proofs.lemmas.List.Elements.{Contains-append_left, Contains-append_right}
use Rattle.std.specs.FinMap.Entries.{below_all, is_sorted}
use Rattle.std.specs.List.{Contains, cons_option, filter_map, flat_map, range_with_len}
use Rattle.std.specs.Ordering.{is_lt}
use Rattle.std.specs.declared.cmp.Ordering.{Ordering}
use Rattle.std.specs.declared.cmp.Ordering.TheVariants.{Less}
use Rattle.row_tables.specs.Table.{keyed, IsRising}
use Rattle.row_tables.proofs.Public.{both_parts, first_of_both, second_of_both, below_rest, IsRising-tail}

pub Contains-cons : {X : Type 0} (x y : X) (xs : List X) → Contains xs x → Contains (y ∷ xs) x
Contains-cons x y xs (k, lt, at) = (suc k, omega arith, at)

pub Contains-cons_cases : {X : Type 0} (x y : X) (xs : List X) → Contains (y ∷ xs) x → (y ≡ x) ⊎ Contains xs x
Contains-cons_cases x y xs (zero, lt, at) = inl at
Contains-cons_cases x y xs (suc k, lt, at) = inr (k, omega arith, at)

pub Contains-map : {X Y : Type 0} (g : X → Y) (xs : List X) (x : X) → Contains xs x → Contains (map g xs) (g x)
Contains-map g [] x (k, lt, at) = absurd (omega arith)
Contains-map g (y ∷ ys) x (zero, lt, at) = (0, omega arith, ap g at)
Contains-map g (y ∷ ys) x (suc k, lt, at) = Contains-cons (g x) (g y) (map g ys)
    (Contains-map g ys x (k, omega arith, at))

pub Contains-from_map : {X Y : Type 0} (g : X → Y) (xs : List X) (z : Y) → Contains (map g xs) z
    → (x : X) × Contains xs x × (g x ≡ z)
Contains-from_map g [] z (k, lt, at) = absurd (omega arith)
Contains-from_map g (y ∷ ys) z (zero, lt, at) = (y, (0, omega arith, refl), at)
Contains-from_map g (y ∷ ys) z (suc k, lt, at) =
    let r = Contains-from_map g ys z (k, omega arith, at) in
    (r.0, Contains-cons r.0 y ys r.1, r.2)

pub Contains-flat_map : {X Y : Type 0} (f : X → List Y) (xs : List X) (x : X) (z : Y) → Contains xs x → Contains (f x) z
    → Contains (flat_map f xs) z
Contains-flat_map f [] x z (k, lt, at) h = absurd (omega arith)
Contains-flat_map f (y ∷ ys) x z (zero, lt, at) h = Contains-append_left (f y) (flat_map f ys) z
    (subst (λ w. Contains (f w) z) (sym at) h)
Contains-flat_map f (y ∷ ys) x z (suc k, lt, at) h = Contains-append_right (f y) (flat_map f ys) z
    (Contains-flat_map f ys x z (k, omega arith, at) h)

pub Contains-range : (n i : ℕ) → i < n → Contains (range_with_len 0 n) i
Contains-range n i lt = (i, omega (arith, length-range_with_len 0 n), get_or-range_with_len 0 n i i lt ∙ zero-add i)

module _ {X Y : Type 0} (f : X → Option Y) where
  pub Contains-filter_map : (xs : List X) (x : X) (y : Y) → Contains xs x → f x ≡ Some y → Contains (filter_map f xs) y
  Contains-filter_map [] x y (k, lt, at) e = absurd (omega arith)
  Contains-filter_map (z ∷ zs) x y (zero, lt, at) e =
      subst (λ (o : Option Y). Contains (cons_option o (filter_map f zs)) y) (sym (ap f at ∙ e)) (0, omega arith, refl)
  Contains-filter_map (z ∷ zs) x y (suc k, lt, at) e =
      let rest = Contains-filter_map zs x y (k, omega arith, at) e in
      elim (f z) as (λ (o : Option Y). Contains (cons_option o (filter_map f zs)) y) [
        | None ↦ rest
        | (Some w) ↦ Contains-cons y w (filter_map f zs) rest
      ]

  pub Contains-from_filter_map : (xs : List X) (y : Y) → Contains (filter_map f xs) y
      → (x : X) × Contains xs x × (f x ≡ Some y)
  Contains-from_filter_map [] y (k, lt, at) = absurd (omega arith)
  Contains-from_filter_map (z ∷ zs) y h =
      elim (f z) as (λ (o : Option Y). f z ≡ o → Contains (cons_option o (filter_map f zs)) y
      → (x : X) × Contains (z ∷ zs) x × (f x ≡ Some y)) [
        | None ↦ λ e g. let r = Contains-from_filter_map zs y g in (r.0, Contains-cons r.0 z zs r.1, r.2)
        | (Some w) ↦ λ e g. ⊎_elim
            (λ (at : w ≡ y). (z, (0, omega arith, refl), e ∙ ap Some at))
            (λ (g' : Contains (filter_map f zs) y). let r = Contains-from_filter_map zs y g' in
            (r.0, Contains-cons r.0 z zs r.1, r.2))
            (Contains-cons_cases y w (filter_map f zs) g)
      ] refl h

module _ {K X : Type 0} (R : K → K → Ordering) (key : X → K) where
  below_all-append : (k : K) (xs ys : List X) → T (below_all R k (keyed R key xs)) → T (below_all R k (keyed R key ys))
      → T (below_all R k (keyed R key (xs ++ ys)))
  below_all-append k [] ys f g = g
  below_all-append k (x ∷ xs) ys f g =
      both_parts (is_lt (R k (key x))) (below_all R k (keyed R key (xs ++ ys)))
      (first_of_both (is_lt (R k (key x))) (below_all R k (keyed R key xs)) f)
      (below_all-append k xs ys (second_of_both (is_lt (R k (key x))) (below_all R k (keyed R key xs)) f) g)

  below_all-from_each : (k : K) (ys : List X) → ((y : X) → Contains ys y → R k (key y) ≡ Less)
      → T (below_all R k (keyed R key ys))
  below_all-from_each k [] h = tt
  below_all-from_each k (y ∷ ys) h =
      both_parts (is_lt (R k (key y))) (below_all R k (keyed R key ys))
      (subst (λ c. T (is_lt c)) (sym (h y (0, omega arith, refl))) tt)
      (below_all-from_each k ys (λ z g. h z (Contains-cons z y ys g)))

  -- rows rise that stand behind rows which are all below them
  pub IsRising-append : (xs ys : List X) → IsRising R key xs → IsRising R key ys
      → ((x y : X) → Contains xs x → Contains ys y → R (key x) (key y) ≡ Less) → IsRising R key (xs ++ ys)
  IsRising-append [] ys f g h = g
  IsRising-append (x ∷ xs) ys f g h =
      both_parts (below_all R (key x) (keyed R key (xs ++ ys))) (is_sorted R (keyed R key (xs ++ ys)))
      (below_all-append (key x) xs ys (below_rest R key x xs f)
      (below_all-from_each (key x) ys (λ y in_ys. h x y (0, omega arith, refl) in_ys)))
      (IsRising-append xs ys (IsRising-tail R key x xs f) g
      (λ w y in_xs in_ys. h w y (Contains-cons w x xs in_xs) in_ys))

module _ {K X Y : Type 0} (R : K → K → Ordering) (key : Y → K) (g : X → Y) where
  below_all-map : (k : K) (xs : List X) → T (below_all R k (keyed R (λ x. key (g x)) xs))
      → T (below_all R k (keyed R key (map g xs)))
  below_all-map k [] h = tt
  below_all-map k (x ∷ xs) h =
      both_parts (is_lt (R k (key (g x)))) (below_all R k (keyed R key (map g xs)))
      (first_of_both (is_lt (R k (key (g x)))) (below_all R k (keyed R (λ z. key (g z)) xs)) h)
      (below_all-map k xs (second_of_both (is_lt (R k (key (g x)))) (below_all R k (keyed R (λ z. key (g z)) xs)) h))

  -- what is made of each row rises as the rows do
  pub IsRising-map : (xs : List X) → IsRising R (λ x. key (g x)) xs → IsRising R key (map g xs)
  IsRising-map [] h = tt
  IsRising-map (x ∷ xs) h =
      both_parts (below_all R (key (g x)) (keyed R key (map g xs))) (is_sorted R (keyed R key (map g xs)))
      (below_all-map (key (g x)) xs (below_rest R (λ z. key (g z)) x xs h))
      (IsRising-map xs (IsRising-tail R (λ z. key (g z)) x xs h))

module _ {J K X Y : Type 0} (Q : J → J → Ordering) (of : X → J) (R : K → K → Ordering) (key : Y → K) (e : J → K)
    (f : X → Option Y)
    (order : (a b : J) → R (e a) (e b) ≡ Q a b) (about : (x : X) (y : Y) → f x ≡ Some y → key y ≡ e (of x)) where
  below_all-filter_map : (k : J) (xs : List X) → T (below_all Q k (keyed Q of xs))
      → T (below_all R (e k) (keyed R key (filter_map f xs)))
  below_all-filter_map k [] h = tt
  below_all-filter_map k (x ∷ xs) h =
      let first = first_of_both (is_lt (Q k (of x))) (below_all Q k (keyed Q of xs)) h in
      let rest = below_all-filter_map k xs (second_of_both (is_lt (Q k (of x))) (below_all Q k (keyed Q of xs)) h) in
      elim (f x) as (λ (o : Option Y). f x ≡ o → T (below_all R (e k) (keyed R key (cons_option o (filter_map f xs))))) [
        | None ↦ λ is. rest
        | (Some y) ↦ λ is. both_parts (is_lt (R (e k) (key y))) (below_all R (e k) (keyed R key (filter_map f xs)))
            (subst (λ c. T (is_lt c)) (sym (ap (R (e k)) (about x y is) ∙ order k (of x))) first) rest
      ] refl

  -- what is asked of some rows of a table rises by what it is about
  pub IsRising-filter_map : (xs : List X) → IsRising Q of xs → IsRising R key (filter_map f xs)
  IsRising-filter_map [] h = tt
  IsRising-filter_map (x ∷ xs) h =
      let rest = IsRising-filter_map xs (IsRising-tail Q of x xs h) in
      elim (f x) as (λ (o : Option Y). f x ≡ o → IsRising R key (cons_option o (filter_map f xs))) [
        | None ↦ λ is. rest
        | (Some y) ↦ λ is. both_parts (below_all R (key y) (keyed R key (filter_map f xs)))
            (is_sorted R (keyed R key (filter_map f xs)))
            (subst (λ k. T (below_all R k (keyed R key (filter_map f xs)))) (sym (about x y is))
            (below_all-filter_map (of x) xs (below_rest Q of x xs h))) rest
      ] refl
