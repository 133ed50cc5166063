-- Which keys stand in a list after a put, a removal and a filter.
use Rattle.std.proofs.Common.{◌≡◌, ◌≢◌, ℕ, zero, suc, ◌<◌, ◌≤◌, ◌&&◌, ◌||◌, nat_eq, Bool, true, false, not, cond, List, [], ◌∷◌, refl, ap, sym, subst, ◌∙◌, ◌⊎◌, inl, inr, ⊎_elim, arith}
use Rattle.std.specs.declared.cmp.Ordering.{Ordering}
use Rattle.std.specs.declared.cmp.Ordering.TheVariants.{Less, Equal, Greater}
use Rattle.std.specs.Cmp.{nat_cmp_is}
use Rattle.std.specs.FinMap.Entries.{by_order}
use Rattle.std.specs.List.{Contains, filter}
use Rattle.std.specs.Ordering.{eq_by_cmp, is_lt, nat_cmp}
use Rattle.std.proofs.lemmas.Bool.{cases_lt, eqb-true}
use Rattle.row_tables.specs.Table.{IsKeyOrder, put_row, without_row}
use Rattle.row_tables.proofs.Public.{same_from_tie}

module _ {X : Type 0} where
  in_rest : (x y : X) (xs : List X) → Contains xs x → Contains (y ∷ xs) x
  in_rest x y xs (k, lt, at) = (suc k, omega (arith, lt), at)

  first_or_rest : (x y : X) (xs : List X) → Contains (y ∷ xs) x → (y ≡ x) ⊎ Contains xs x
  first_or_rest x y xs (zero, lt, at) = inl at
  first_or_rest x y xs (suc k, lt, at) = inr (k, omega (arith, lt), at)

  -- what passes a filter stands in what it leaves
  pub in_filter : (p : X → Bool) (x : X) (xs : List X) → Contains xs x → p x ≡ true → Contains (filter p xs) x
  in_filter p x [] (k, lt, at) passes = absurd (omega (arith, lt))
  in_filter p x (y ∷ ys) inside passes =
      elim (first_or_rest x y ys inside) as (λ _. Contains (cond (p y) (y ∷ filter p ys) (filter p ys)) x) [
        | (inl one) ↦ subst (λ b. Contains (cond b (y ∷ filter p ys) (filter p ys)) x) (sym (ap p one ∙ passes))
            (0, omega arith, one)
        | (inr rest) ↦ elim (p y) as (λ (b : Bool). Contains (cond b (y ∷ filter p ys) (filter p ys)) x) [
          | true ↦ in_rest x y (filter p ys) (in_filter p x ys rest passes)
          | false ↦ in_filter p x ys rest passes
        ]
      ]

module _ {K : Type 0} (R : K → K → Ordering) (o : IsKeyOrder R) where
  -- a key that was put is there
  pub put_there : (q : K) (xs : List K) → Contains (put_row R (λ k. k) q xs) q
  put_there q [] = (0, omega arith, refl)
  put_there q (x ∷ xs) =
      elim (R q x) as (λ c. Contains (by_order c (q ∷ x ∷ xs) (q ∷ xs) (x ∷ put_row R (λ k. k) q xs)) q) [
        | Less ↦ (0, omega arith, refl)
        | Equal ↦ (0, omega arith, refl)
        | Greater ↦ in_rest q x (put_row R (λ k. k) q xs) (put_there q xs)
      ]

  -- and the others still are
  pub put_keeps : (q y : K) (xs : List K) → Contains xs y → Contains (put_row R (λ k. k) q xs) y
  put_keeps q y [] (k, lt, at) = absurd (omega (arith, lt))
  put_keeps q y (x ∷ xs) inside =
      elim (R q x) as (λ c. R q x ≡ c → Contains (by_order c (q ∷ x ∷ xs) (q ∷ xs) (x ∷ put_row R (λ k. k) q xs)) y) [
        | Less ↦ λ e. in_rest y q (x ∷ xs) inside
        | Equal ↦ λ e. elim (first_or_rest y x xs inside) as (λ _. Contains (q ∷ xs) y) [
          | (inl one) ↦ (0, omega arith, o.exact q x e ∙ one)
          | (inr rest) ↦ in_rest y q xs rest
        ]
        | Greater ↦ λ e. elim (first_or_rest y x xs inside) as (λ _. Contains (x ∷ put_row R (λ k. k) q xs) y) [
          | (inl one) ↦ (0, omega arith, one)
          | (inr rest) ↦ in_rest y x (put_row R (λ k. k) q xs) (put_keeps q y xs rest)
        ]
      ] refl

  -- the others still are after a removal
  pub without_keeps : (q y : K) (xs : List K) → q ≢ y → Contains xs y → Contains (without_row R (λ k. k) q xs) y
  without_keeps q y [] other (k, lt, at) = absurd (omega (arith, lt))
  without_keeps q y (x ∷ xs) other inside =
      elim (eq_by_cmp R q x) as (λ b. eq_by_cmp R q x ≡ b
      → Contains (cond b (without_row R (λ k. k) q xs) (x ∷ without_row R (λ k. k) q xs)) y) [
        | true ↦ λ e. elim (first_or_rest y x xs inside) as (λ _. Contains (without_row R (λ k. k) q xs) y) [
          | (inl one) ↦ absurd (other (same_from_tie R o q x e ∙ one))
          | (inr rest) ↦ without_keeps q y xs other rest
        ]
        | false ↦ λ e. elim (first_or_rest y x xs inside) as (λ _. Contains (x ∷ without_row R (λ k. k) q xs) y) [
          | (inl one) ↦ (0, omega arith, one)
          | (inr rest) ↦ in_rest y x (without_row R (λ k. k) q xs) (without_keeps q y xs other rest)
        ]
      ] refl

-- a moment before another
pub is_before : (m n : ℕ) → m < n → is_lt (nat_cmp m n) ≡ true
is_before m n lt = ap is_lt (sym (nat_cmp_is m n Less lt))

-- and one that isn't
pub is_since : (m n : ℕ) → n ≤ m → not (is_lt (nat_cmp m n)) ≡ true
is_since m n le =
    ⊎_elim
    (λ (lt : n < m). ap (λ c. not (is_lt c)) (sym (nat_cmp_is m n Greater lt)))
    (λ (ge : m ≤ n). let one : m ≡ n = omega (arith, le, ge) in ap (λ c. not (is_lt c)) (sym (nat_cmp_is m n Equal one)))
    (cases_lt n m)

-- what is noted is of the moment that was put, or was noted before
pub noted_or_was : {A : Type 0} (moment m : ℕ) (same was : Bool) → ((nat_eq moment m && same) || was) ≡ true
    → (moment ≡ m → A) → (was ≡ true → A) → A
noted_or_was {A} moment m same was either new old =
    elim (nat_eq moment m) as (λ (b : Bool). nat_eq moment m ≡ b → ((b && same) || was) ≡ true → A) [
      | true ↦ λ e h. new (eqb-true moment m e)
      | false ↦ λ e h. old h
    ] refl either

-- what is noted still was
pub was_noted : (gone was : Bool) → (not gone && was) ≡ true → was ≡ true
was_noted true was e = absurd cc
was_noted false was e = e
