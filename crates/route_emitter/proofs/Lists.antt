-- What two sorted lists of entries have in common, and what not.
use Rattle.std.proofs.Common.{◌≡◌, ◌⊎◌, inl, inr, Bool, true, false, cond, zero, suc, List, [], ◌∷◌, Option, Some, None, is_some, refl, sym, ap, subst, ◌∙◌, arith}
use Rattle.std.specs.Prelude.{filter}
use Rattle.std.specs.List.{Contains}
use Rattle.row_tables.specs.Table.{find_row}
use Rattle.row_tables.proofs.Public.{Contains-find_row, key-find_row}
use Rattle.route_emitter.specs.Entries.{has, itself, route_order}
use Rattle.route_emitter.specs.declared.entry.RouteEntry.{RouteEntry}
use Rattle.route_emitter.proofs.Members.{found_itself}
use Rattle.route_emitter.proofs.Order.{IsKeyOrder-route_order}

-- an entry that a list contains is one of it, and the other way round
pub has-Contains : (xs : List RouteEntry) (e : RouteEntry) → Contains xs e → has xs e ≡ true
has-Contains xs e h = ap (λ o. is_some o) (found_itself route_order IsKeyOrder-route_order e xs h)

pub Contains-has : (xs : List RouteEntry) (e : RouteEntry) → has xs e ≡ true → Contains xs e
Contains-has xs e h =
    elim (find_row route_order itself e xs) as (λ (o : Option RouteEntry). find_row route_order itself e xs ≡ o
    → is_some o ≡ true → Contains xs e) [
      | None ↦ λ is some. absurd cc
      | (Some x) ↦ λ is some.
          let one : x ≡ e = key-find_row route_order itself IsKeyOrder-route_order e x xs is in
          subst (λ y. Contains xs y) one (Contains-find_row route_order itself e x xs is)
    ] refl h

pub lacks : (xs : List RouteEntry) (e : RouteEntry) → (Contains xs e → ⊥) → has xs e ≡ false
lacks xs e h =
    elim (has xs e) as (λ b. has xs e ≡ b → b ≡ false) [
      | true ↦ λ is. absurd (h (Contains-has xs e is))
      | false ↦ λ is. refl
    ] refl

-- what a filter keeps
module _ {X : Type 0} (p : X → Bool) where
  pub Contains-cons : (x y : X) (xs : List X) → Contains xs x → Contains (y ∷ xs) x
  Contains-cons x y xs (k, lt, at) = (suc k, omega (arith, lt), at)

  pub Contains-filter : (x : X) (xs : List X) → Contains xs x → p x ≡ true → Contains (filter p xs) x
  Contains-filter x [] (k, lt, at) is = absurd (omega arith)
  Contains-filter x (y ∷ ys) (zero, lt, at) is =
      subst (λ b. Contains (cond b (y ∷ filter p ys) (filter p ys)) x) (sym (ap p at ∙ is)) (zero, omega arith, at)
  Contains-filter x (y ∷ ys) (suc k, lt, at) is =
      let rest = Contains-filter x ys (k, omega arith, at) is in
      elim (p y) as (λ b. Contains (cond b (y ∷ filter p ys) (filter p ys)) x) [
        | true ↦ Contains-cons x y (filter p ys) rest
        | false ↦ rest
      ]

  -- the element is the first one, or one behind it
  pub first_or_rest : (x y : X) (xs : List X) → Contains (y ∷ xs) x → (y ≡ x) ⊎ Contains xs x
  first_or_rest x y xs (zero, lt, at) = inl at
  first_or_rest x y xs (suc k, lt, at) = inr (k, omega arith, at)

  pub Contains-from_filter : (x : X) (xs : List X) → Contains (filter p xs) x → Contains xs x × (p x ≡ true)
  Contains-from_filter x [] (k, lt, at) = absurd (omega arith)
  Contains-from_filter x (y ∷ ys) h =
      elim (p y) as (λ b. p y ≡ b → Contains (cond b (y ∷ filter p ys) (filter p ys)) x
      → Contains (y ∷ ys) x × (p x ≡ true)) [
        | true ↦ λ is at. elim (first_or_rest x y (filter p ys) at) [
          | (inl one) ↦ ((zero, omega arith, one), ap p (sym one) ∙ is)
          | (inr rest) ↦ let later = Contains-from_filter x ys rest in (Contains-cons x y ys later.0, later.1)
        ]
        | false ↦ λ is at. let later = Contains-from_filter x ys at in (Contains-cons x y ys later.0, later.1)
      ] refl h
