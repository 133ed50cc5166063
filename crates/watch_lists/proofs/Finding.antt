-- What lists of keys have found, one step after another.
use Rattle.std.proofs.Common.{◌≡◌, ◌⊎◌, ℕ, zero, suc, ◌+◌, ◌<◌, ◌≤◌, List, [], ◌∷◌, ◌++◌, length, get_or, take, inl, inr, refl, ap, sym, subst, arith, ⊎_elim}
use Rattle.std.specs.List.{Contains}
use Rattle.std.proofs.lemmas.Bool.{cases_lt}
use Rattle.std.proofs.lemmas.List.Elements.{Contains-append_left, Contains-append_right}
use Rattle.watch_lists.specs.Watched.{Finds}

-- what stands in a list with one behind it
in_pushed : {K : Type 0} (k j : K) (xs : List K) → Contains (xs ++ j ∷ []) k → Contains xs k ⊎ (j ≡ k)
in_pushed k j [] (zero, lt, at) = inr at
in_pushed k j [] (suc n, lt, at) = absurd (omega (arith, lt))
in_pushed k j (x ∷ xs) (zero, lt, at) = inl (0, omega arith, at)
in_pushed k j (x ∷ xs) (suc n, lt, at) =
    elim (in_pushed k j xs (n, omega (arith, lt), at)) as (λ _. Contains (x ∷ xs) k ⊎ (j ≡ k)) [
      | (inl inside) ↦ inl (suc inside.0, omega (arith, inside.1), inside.2)
      | (inr one) ↦ inr one
    ]

module _ {K : Type 0} (W : K → Type 0) where
  -- nothing is asked for
  pub finds_none : (A : K → Type 0) (old : List K) → ((k : K) → A k → W k → ⊥) → Finds W A old old
  finds_none A old none = record {
    kept = λ k inside. inside;
    only = λ k inside. inl inside;
    all = λ k asked wanted. absurd (none k asked wanted);
  }

  -- a wanted key is added
  pub finds_pushed : (old new : List K) (key : K) → new ≡ old ++ key ∷ [] → W key → Finds W (λ k. k ≡ key) old new
  finds_pushed old new key is wanted = record {
    kept = λ k inside. subst (λ (ks : List K). Contains ks k) (sym is) (Contains-append_left old (key ∷ []) k inside);
    only = λ k inside. elim (in_pushed k key old (subst (λ (ks : List K). Contains ks k) is inside)) as
        (λ _. Contains old k ⊎ W k) [
          | (inl was) ↦ inl was
          | (inr one) ↦ inr (subst W one wanted)
        ];
    all = λ k asked found. subst (λ (ks : List K). Contains ks k) (sym is)
        (Contains-append_right old (key ∷ []) k (0, omega arith, sym asked));
  }

  -- first some are asked for, then others, and what is asked for in all is one or the other
  pub finds_both : (A B C : K → Type 0) (a b c : List K) → Finds W A a b → Finds W B b c → ((k : K) → C k → A k ⊎ B k)
      → Finds W C a c
  finds_both A B C a b c f g either = record {
    kept = λ k inside. g.kept k (f.kept k inside);
    only = λ k inside. elim (g.only k inside) as (λ _. Contains a k ⊎ W k) [
      | (inl was) ↦ f.only k was
      | (inr wanted) ↦ inr wanted
    ];
    all = λ k asked wanted. elim (either k asked) as (λ _. Contains c k) [
      | (inl first) ↦ g.kept k (f.all k first wanted)
      | (inr second) ↦ g.all k second wanted
    ];
  }

  -- less may be asked for
  pub finds_less : (A B : K → Type 0) (a b : List K) → Finds W A a b → ((k : K) → B k → A k) → Finds W B a b
  finds_less A B a b f less = record { kept = f.kept; only = f.only; all = λ k asked. f.all k (less k asked) }

-- one number more
pub number_more : {P : ℕ → Type 0} (n j : ℕ) → j ≡ n + 1 → (i : ℕ) × (i < j) × P i → ((i : ℕ) × (i < n) × P i) ⊎ P n
number_more {P} n j next (i, lt, at) =
    ⊎_elim
    (λ (below : i < n). inl (i, below, at))
    (λ (above : n ≤ i). let one : i ≡ n = omega (arith, lt, next, above) in inr (subst P one at))
    (cases_lt i n)

-- one item more of a list, by its place
taken_next : (xs : List ℕ) (n m : ℕ) → n < length xs → Contains (take (suc n) xs) m
    → Contains (take n xs) m ⊎ (get_or xs n 0 ≡ m)
taken_next [] n m lt inside = absurd (omega (arith, lt))
taken_next (x ∷ xs) zero m lt (zero, below, at) = inr at
taken_next (x ∷ xs) zero m lt (suc k, below, at) = absurd (omega (arith, below))
taken_next (x ∷ xs) (suc n) m lt (zero, below, at) = inl (0, omega arith, at)
taken_next (x ∷ xs) (suc n) m lt (suc k, below, at) =
    elim (taken_next xs n m (omega (arith, lt)) (k, omega (arith, below), at)) as
    (λ _. Contains (take (suc n) (x ∷ xs)) m ⊎ (get_or xs n 0 ≡ m)) [
      | (inl inside) ↦ inl (suc inside.0, omega (arith, inside.1), inside.2)
      | (inr one) ↦ inr one
    ]

-- one item more of a list
pub taken_more : (xs : List ℕ) (n m : ℕ) → n < length xs → Contains (take (n + 1) xs) m
    → Contains (take n xs) m ⊎ (get_or xs n 0 ≡ m)
taken_more xs n m lt inside =
    let next : n + 1 ≡ suc n = omega arith in
    taken_next xs n m lt (subst (λ j. Contains (take j xs) m) next inside)

-- a list is taken whole
pub take_whole : (xs : List ℕ) (n : ℕ) → length xs ≤ n → take n xs ≡ xs
take_whole [] zero le = refl
take_whole [] (suc n) le = refl
take_whole (x ∷ xs) zero le = absurd (omega (arith, le))
take_whole (x ∷ xs) (suc n) le = ap (λ ys. x ∷ ys) (take_whole xs n (omega (arith, le)))
