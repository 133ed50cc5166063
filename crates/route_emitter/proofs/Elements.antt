-- What the lists contain that are made of others.
use Rattle.std.proofs.Common.{◌≡◌, ◌⊎◌, inl, inr, zero, suc, Bool, true, false, List, [], ◌∷◌, ◌++◌, Option, Some, None, is_some, refl, sym, ap, subst, ◌∙◌, arith}
use Rattle.std.specs.declared.cmp.Ordering.{Ordering}
use Rattle.std.specs.List.{Contains, cons_option, filter_map, flat_map}
use Rattle.std.specs.Option.{option_to_list}
use Rattle.std.proofs.lemmas.List.Elements.{Contains-append_cases, Contains-append_left, Contains-append_right}
use Rattle.row_tables.specs.Table.{IsKeyOrder, find_row}
use Rattle.row_tables.proofs.Public.{Contains-find_row, key-find_row}
use Rattle.route_emitter.proofs.Members.{found_itself}

-- one element more in front
pub Contains-later : {X : Type 0} (y x : X) (xs : List X) → Contains xs x → Contains (y ∷ xs) x
Contains-later y x xs (k, lt, at) = (suc k, omega (arith, lt), at)

pub Contains-first : {X : Type 0} (x : X) (xs : List X) → Contains (x ∷ xs) x
Contains-first x xs = (zero, omega arith, refl)

pub first_or_later : {X : Type 0} (x y : X) (xs : List X) → Contains (y ∷ xs) x → (y ≡ x) ⊎ Contains xs x
first_or_later x y xs (zero, lt, at) = inl at
first_or_later x y xs (suc k, lt, at) = inr (k, omega (arith, lt), at)

none_in_nothing : {X : Type 0} (x : X) → Contains [] x → ⊥
none_in_nothing x (k, lt, at) = omega (arith, lt)

-- the value of an option
pub Contains-option : {X : Type 0} (o : Option X) (x : X) → o ≡ Some x → Contains (option_to_list o) x
Contains-option o x is = subst (λ o. Contains (option_to_list o) x) (sym is) (Contains-first x [])

pub Contains-from_option : {X : Type 0} (o : Option X) (x : X) → Contains (option_to_list o) x → o ≡ Some x
Contains-from_option None x h = absurd (none_in_nothing x h)
Contains-from_option (Some y) x h = elim (first_or_later x y [] h) [
  | (inl one) ↦ ap Some one
  | (inr none) ↦ absurd (none_in_nothing x none)
]

module _ {X Y : Type 0} (f : X → Option Y) where
  pub Contains-filter_map : (x : X) (y : Y) (xs : List X) → Contains xs x → f x ≡ Some y → Contains (filter_map f xs) y
  Contains-filter_map x y [] h is = absurd (none_in_nothing x h)
  Contains-filter_map x y (z ∷ zs) h is = elim (first_or_later x z zs h) [
    | (inl one) ↦ subst (λ o. Contains (cons_option o (filter_map f zs)) y) (sym (ap f one ∙ is))
        (Contains-first y (filter_map f zs))
    | (inr later) ↦
        let rest = Contains-filter_map x y zs later is in
        elim (f z) as (λ o. Contains (cons_option o (filter_map f zs)) y) [
          | None ↦ rest
          | (Some w) ↦ Contains-later w y (filter_map f zs) rest
        ]
  ]

  pub Contains-from_filter_map : (y : Y) (xs : List X) → Contains (filter_map f xs) y
      → (x : X) × Contains xs x × (f x ≡ Some y)
  Contains-from_filter_map y [] h = absurd (none_in_nothing y h)
  Contains-from_filter_map y (z ∷ zs) h =
      elim (f z) as (λ o. f z ≡ o → Contains (cons_option o (filter_map f zs)) y
      → (x : X) × Contains (z ∷ zs) x × (f x ≡ Some y)) [
        | None ↦ λ is there.
            let rest = Contains-from_filter_map y zs there in
            (rest.0, Contains-later z rest.0 zs rest.1, rest.2)
        | (Some w) ↦ λ is there. elim (first_or_later y w (filter_map f zs) there) [
          | (inl one) ↦ (z, Contains-first z zs, is ∙ ap Some one)
          | (inr later) ↦
              let rest = Contains-from_filter_map y zs later in
              (rest.0, Contains-later z rest.0 zs rest.1, rest.2)
        ]
      ] refl h

module _ {X Y : Type 0} (f : X → List Y) where
  pub Contains-flat_map : (x : X) (y : Y) (xs : List X) → Contains xs x → Contains (f x) y → Contains (flat_map f xs) y
  Contains-flat_map x y [] h is = absurd (none_in_nothing x h)
  Contains-flat_map x y (z ∷ zs) h is = elim (first_or_later x z zs h) [
    | (inl one) ↦ Contains-append_left (f z) (flat_map f zs) y (subst (λ w. Contains (f w) y) (sym one) is)
    | (inr later) ↦ Contains-append_right (f z) (flat_map f zs) y (Contains-flat_map x y zs later is)
  ]

  pub Contains-from_flat_map : (y : Y) (xs : List X) → Contains (flat_map f xs) y
      → (x : X) × Contains xs x × Contains (f x) y
  Contains-from_flat_map y [] h = absurd (none_in_nothing y h)
  Contains-from_flat_map y (z ∷ zs) h = elim (Contains-append_cases (f z) (flat_map f zs) y h) [
    | (inl here) ↦ (z, Contains-first z zs, here)
    | (inr later) ↦
        let rest = Contains-from_flat_map y zs later in
        (rest.0, Contains-later z rest.0 zs rest.1, rest.2)
  ]

-- what is its own key is found where it is contained, and nowhere else
module _ {K : Type 0} (R : K → K → Ordering) (o : IsKeyOrder R) where
  pub found-Contains : (xs : List K) (q : K) → Contains xs q → is_some (find_row R (λ p. p) q xs) ≡ true
  found-Contains xs q h = ap (λ s. is_some s) (found_itself R o q xs h)

  pub Contains-found : (xs : List K) (q : K) → is_some (find_row R (λ p. p) q xs) ≡ true → Contains xs q
  Contains-found xs q h =
      elim (find_row R (λ p. p) q xs) as (λ (s : Option K). find_row R (λ p. p) q xs ≡ s → is_some s ≡ true
      → Contains xs q) [
        | None ↦ λ is some. absurd cc
        | (Some x) ↦ λ is some. subst (λ y. Contains xs y) (key-find_row R (λ p. p) o q x xs is)
            (Contains-find_row R (λ p. p) q x xs is)
      ] refl h
