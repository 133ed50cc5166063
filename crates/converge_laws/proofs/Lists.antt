-- What stands in lists that are made of others.
use Rattle.std.proofs.Common.{◌≡◌, zero, suc, Bool, true, false, cond, List, [], ◌∷◌, filter, map, Some, find, refl, sym, ap, subst, ◌∙◌, ⊎_elim, arith}
use Rattle.std.proofs.lemmas.List.Elements.{Contains-append_left, Contains-append_right, Contains-append_cases}
use Rattle.std.specs.List.{AllZip, Contains, flat_map}
use Rattle.converge_laws.proofs.Runs.{inside_first, inside_rest, first_or_rest}

pub inside_map : {X Y : Type 0} (f : X → Y) (xs : List X) (x : X) → Contains xs x → Contains (map f xs) (f x)
inside_map f [] x (k, lt, at) = absurd (omega arith)
inside_map f (y ∷ ys) x (zero, lt, at) = (0, omega arith, ap f at)
inside_map f (y ∷ ys) x (suc k, lt, at) = inside_rest (f x) (f y) (map f ys) (inside_map f ys x (k, omega arith, at))

pub from_map : {X Y : Type 0} (f : X → Y) (xs : List X) (z : Y) → Contains (map f xs) z
    → (x : X) × Contains xs x × (f x ≡ z)
from_map f [] z (k, lt, at) = absurd (omega arith)
from_map f (y ∷ ys) z (zero, lt, at) = (y, inside_first y ys, at)
from_map f (y ∷ ys) z (suc k, lt, at) = let r = from_map f ys z (k, omega arith, at) in
    (r.0, inside_rest r.0 y ys r.1, r.2)

pub inside_flat_map : {X Y : Type 0} (f : X → List Y) (xs : List X) (x : X) (z : Y) → Contains xs x → Contains (f x) z
    → Contains (flat_map f xs) z
inside_flat_map f [] x z (k, lt, at) h = absurd (omega arith)
inside_flat_map f (y ∷ ys) x z (zero, lt, at) h = Contains-append_left (f y) (flat_map f ys) z
    (subst (λ w. Contains (f w) z) (sym at) h)
inside_flat_map f (y ∷ ys) x z (suc k, lt, at) h = Contains-append_right (f y) (flat_map f ys) z
    (inside_flat_map f ys x z (k, omega arith, at) h)

pub from_flat_map : {X Y : Type 0} (f : X → List Y) (xs : List X) (z : Y) → Contains (flat_map f xs) z
    → (x : X) × Contains xs x × Contains (f x) z
from_flat_map f [] z (k, lt, at) = absurd (omega arith)
from_flat_map f (y ∷ ys) z h =
    ⊎_elim
    (λ (here : Contains (f y) z). (y, inside_first y ys, here))
    (λ (later : Contains (flat_map f ys) z). let r = from_flat_map f ys z later in (r.0, inside_rest r.0 y ys r.1, r.2))
    (Contains-append_cases (f y) (flat_map f ys) z h)

pub inside_filter : {X : Type 0} (p : X → Bool) (xs : List X) (x : X) → Contains xs x → p x ≡ true
    → Contains (filter p xs) x
inside_filter p [] x (k, lt, at) e = absurd (omega arith)
inside_filter p (y ∷ ys) x (zero, lt, at) e =
    let passes : p y ≡ true = ap p at ∙ e in
    subst (λ (b : Bool). Contains (cond b (y ∷ filter p ys) (filter p ys)) x) (sym passes) (0, omega arith, at)
inside_filter p (y ∷ ys) x (suc k, lt, at) e =
    let rest = inside_filter p ys x (k, omega arith, at) e in
    elim (p y) as (λ (b : Bool). Contains (cond b (y ∷ filter p ys) (filter p ys)) x) [
      | true ↦ inside_rest x y (filter p ys) rest
      | false ↦ rest
    ]

pub from_filter : {X : Type 0} (p : X → Bool) (xs : List X) (x : X) → Contains (filter p xs) x
    → Contains xs x × (p x ≡ true)
from_filter p [] x (k, lt, at) = absurd (omega arith)
from_filter p (y ∷ ys) x h =
    elim (p y) as (λ (b : Bool). p y ≡ b → Contains (cond b (y ∷ filter p ys) (filter p ys)) x
    → Contains (y ∷ ys) x × (p x ≡ true)) [
      | true ↦ λ e g. ⊎_elim
          (λ (is : y ≡ x). ((0, omega arith, is), ap p (sym is) ∙ e))
          (λ (later : Contains (filter p ys) x). let r = from_filter p ys x later in (inside_rest x y ys r.0, r.1))
          (first_or_rest x y (filter p ys) g)
      | false ↦ λ e g. let r = from_filter p ys x g in (inside_rest x y ys r.0, r.1)
    ] refl h

-- two lists whose items agree place by place
module _ {X : Type 0} (R : X → X → Type 0) where
  pub zip_back : (xs ys : List X) (y : X) → AllZip R xs ys → Contains ys y → (x : X) × Contains xs x × R x y
  zip_back [] [] y h (k, lt, at) = absurd (omega arith)
  zip_back [] (w ∷ ws) y h inside = absurd h
  zip_back (x ∷ xs) [] y h inside = absurd h
  zip_back (x ∷ xs) (w ∷ ws) y h inside =
      ⊎_elim
      (λ (is : w ≡ y). (x, inside_first x xs, subst (R x) is h.0))
      (λ (later : Contains ws y). let r = zip_back xs ws y h.1 later in (r.0, inside_rest r.0 x xs r.1, r.2))
      (first_or_rest y w ws inside)

  pub zip_find : (p : X → Bool) → ((x y : X) → R x y → p y ≡ p x) → (xs ys : List X) (x : X) → AllZip R xs ys
      → find p xs ≡ Some x → (y : X) × (find p ys ≡ Some y) × R x y
  zip_find p same [] ys x h e = absurd cc
  zip_find p same (w ∷ ws) [] x h e = absurd h
  zip_find p same (w ∷ ws) (v ∷ vs) x h e =
      elim (p w) as (λ (b : Bool). p w ≡ b → cond b (Some w) (find p ws) ≡ Some x
      → (y : X) × (find p (v ∷ vs) ≡ Some y) × R x y) [
        | true ↦ λ is g.
            let one : w ≡ x = cc in
            let passes : p v ≡ true = same w v h.0 ∙ is in
            (v, ap (λ (b : Bool). cond b (Some v) (find p vs)) passes, subst (λ (z : X). R z v) one h.0)
        | false ↦ λ is g.
            let fails : p v ≡ false = same w v h.0 ∙ is in
            let r = zip_find p same ws vs x h.1 g in
            (r.0, ap (λ (b : Bool). cond b (Some v) (find p vs)) fails ∙ r.1, r.2)
      ] refl e
