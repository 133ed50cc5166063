-- Where a search finds an entry, or a place for it, and what a removal or an insertion there makes of sorted entries.
use Rattle.std.proofs.Common.{◌≡◌, ℕ, zero, suc, ◌+◌, ◌<◌, ◌≤◌, Bool, true, false, cond, List, [], ◌∷◌, ◌++◌, length, take, drop, get_or, Option, Some, None, refl, sym, ap, subst, ◌∙◌, append_assoc, arith}
use Rattle.std.specs.Prelude.{insert, remove}
use Rattle.std.specs.declared.cmp.Ordering.{Ordering}
use Rattle.std.specs.declared.cmp.Ordering.TheVariants.{Less, Equal, Greater}
use Rattle.std.specs.FinMap.Entries.{by_order}
use Rattle.std.specs.Ordering.{eq_by_cmp, is_eq, ordering_reverse}
use Rattle.std.specs.List.{All, AllWithin, HoldsAt}
use Rattle.std.specs.List.Sorted.{IsPartitionPoint}
use Rattle.std.proofs.lemmas.List.Elements.{All-cons, All-head, All-nil, All-tail}
use Rattle.row_tables.specs.Table.{IsKeyOrder, find_row, put_row, without_row, IsRising}
use Rattle.row_tables.proofs.Public.{All-above, below_rest, IsRising-tail, same_from_tie, ties_itself}
use Rattle.route_emitter.proofs.Filters.{none_behind}

-- without a row that isn't there
pub without-absent : {K X : Type 0} (R : K → K → Ordering) (key : X → K) (q : K) (xs : List X)
    → find_row R key q xs ≡ None → without_row R key q xs ≡ xs
without-absent R key q [] none = refl
without-absent {K} {X} R key q (x ∷ xs) none =
    elim (eq_by_cmp R q (key x)) as (λ b. cond b (Some x) (find_row R key q xs) ≡ None
    → cond b (without_row R key q xs) (x ∷ without_row R key q xs) ≡ x ∷ xs) [
      | true ↦ λ found. absurd cc
      | false ↦ λ found. ap (λ (ys : List X). x ∷ ys) (without-absent R key q xs found)
    ] none

module _ {K : Type 0} (R : K → K → Ordering) (o : IsKeyOrder R) where
  turned-less : (x y : K) → R x y ≡ Less → R y x ≡ Greater
  turned-less x y h = o.total.antisymm y x ∙ ap ordering_reverse h

  turned-greater : (x y : K) → R x y ≡ Greater → R y x ≡ Less
  turned-greater x y h = o.total.antisymm y x ∙ ap ordering_reverse h

  -- the entry that a search found is taken out
  pub removed : (e : K) (xs : List K) (i : ℕ) → IsRising R (λ x. x) xs → i < length xs
      → HoldsAt (λ y. R y e ≡ Equal) xs i → remove xs i ≡ without_row R (λ x. x) e xs
  removed e [] i rising lt at = absurd (omega (arith, lt))
  removed e (x ∷ xs) zero rising lt at =
      let same : e ≡ x = sym (o.exact x e (at x)) in
      let tie : eq_by_cmp R e x ≡ true = subst (λ y. eq_by_cmp R e y ≡ true) same (ties_itself R o e) in
      sym (without-absent R (λ y. y) e xs (none_behind R (λ y. y) o e x xs rising tie))
      ∙ ap (λ b. cond b (without_row R (λ y. y) e xs) (x ∷ without_row R (λ y. y) e xs)) (sym tie)
  removed e (x ∷ xs) (suc i) rising lt at =
      let lower : i < length xs = omega (arith, lt) in
      let there : get_or xs i e ≡ e = o.exact (get_or xs i e) e (at e) in
      let above : R x (get_or xs i e) ≡ Less = All-above R (λ y. y) x xs
      (below_rest R (λ y. y) x xs rising) i e lower in
      let less : R x e ≡ Less = subst (λ y. R x y ≡ Less) there above in
      let apart : eq_by_cmp R e x ≡ false = ap is_eq (turned-less x e less) in
      ap (λ (ys : List K). x ∷ ys) (removed e xs i (IsRising-tail R (λ y. y) x xs rising) lower (λ d. at d))
      ∙ ap (λ b. cond b (without_row R (λ y. y) e xs) (x ∷ without_row R (λ y. y) e xs)) (sym apart)

  -- one for which it found a place is put in
  pub inserted : (e : K) (xs : List K) (i : ℕ) → i ≤ length xs
      → IsPartitionPoint (λ y. R y e ≡ Less) (λ y. R y e ≡ Greater) xs i → insert xs i e ≡ put_row R (λ x. x) e xs
  inserted e [] zero le split = refl
  inserted e [] (suc i) le split = absurd (omega (arith, le))
  inserted e (x ∷ xs) zero le split =
      let less : R e x ≡ Less = turned-greater x e (split.1 0 x (omega arith) (omega arith)) in
      ap (λ c. by_order c (e ∷ x ∷ xs) (e ∷ xs) (x ∷ put_row R (λ y. y) e xs)) (sym less)
  inserted e (x ∷ xs) (suc i) le split =
      let more : R e x ≡ Greater = turned-less x e (split.0 0 x (omega arith) (omega arith)) in
      let later : IsPartitionPoint (λ y. R y e ≡ Less) (λ y. R y e ≡ Greater) xs i = (
        λ k d low high. split.0 (suc k) d (omega arith) (omega (arith, high)),
        λ k d low high.
            split.1 (suc k) d (omega (arith, low)) (omega (arith, high)),
      ) in
      ap (λ (ys : List K). x ∷ ys) (inserted e xs i (omega (arith, le)) later)
      ∙ ap (λ c. by_order c (e ∷ x ∷ xs) (e ∷ xs) (x ∷ put_row R (λ y. y) e xs)) (sym more)

  -- before the entry that a search found, or for which it found a place, all are below it
  pub below-found : (e : K) (xs : List K) (i : ℕ) → IsRising R (λ x. x) xs → i < length xs
      → HoldsAt (λ y. R y e ≡ Equal) xs i → All (λ y. R y e ≡ Less) (take i xs)
  below-found e [] i rising lt at = absurd (omega (arith, lt))
  below-found e (x ∷ xs) zero rising lt at = All-nil (λ y. R y e ≡ Less)
  below-found e (x ∷ xs) (suc i) rising lt at =
      let lower : i < length xs = omega (arith, lt) in
      let there : get_or xs i e ≡ e = o.exact (get_or xs i e) e (at e) in
      let above : R x (get_or xs i e) ≡ Less = All-above R (λ y. y) x xs
      (below_rest R (λ y. y) x xs rising) i e lower in
      All-cons (λ y. R y e ≡ Less) x (take i xs) (subst (λ y. R x y ≡ Less) there above)
      (below-found e xs i (IsRising-tail R (λ y. y) x xs rising) lower (λ d. at d))

  pub below-place : (P : K → Type 0) (xs : List K) (i : ℕ) → i ≤ length xs → AllWithin P xs 0 i → All P (take i xs)
  below-place P [] zero le h = All-nil P
  below-place P [] (suc i) le h = absurd (omega (arith, le))
  below-place P (x ∷ xs) zero le h = All-nil P
  below-place P (x ∷ xs) (suc i) le h =
      All-cons P x (take i xs) (h 0 x (omega arith) (omega arith))
      (below-place P xs i (omega (arith, le)) (λ k d low high. h (suc k) d (omega arith) (omega (arith, high))))

  -- those in front of an entry are not touched
  pub put-behind : (e : K) (front back : List K) → All (λ y. R y e ≡ Less) front
      → put_row R (λ x. x) e (front ++ back) ≡ front ++ put_row R (λ x. x) e back
  put-behind e [] back h = refl
  put-behind e (x ∷ xs) back h =
      ap (λ c. by_order c (e ∷ (x ∷ xs ++ back)) (e ∷ (xs ++ back)) (x ∷ put_row R (λ y. y) e (xs ++ back)))
      (turned-less x e (All-head (λ y. R y e ≡ Less) x xs h))
      ∙ ap (λ (ys : List K). x ∷ ys) (put-behind e xs back (All-tail (λ y. R y e ≡ Less) x xs h))

  not-behind : (e x : K) → R x e ≡ Less → eq_by_cmp R e x ≡ false
  not-behind e x less = ap is_eq (turned-less x e less)

  pub without-behind : (e : K) (front back : List K) → All (λ y. R y e ≡ Less) front
      → without_row R (λ x. x) e (front ++ back) ≡ front ++ without_row R (λ x. x) e back
  without-behind e [] back h = refl
  without-behind e (x ∷ xs) back h =
      ap (λ b. cond b (without_row R (λ y. y) e (xs ++ back)) (x ∷ without_row R (λ y. y) e (xs ++ back)))
      (not-behind e x (All-head (λ y. R y e ≡ Less) x xs h))
      ∙ ap (λ (ys : List K). x ∷ ys) (without-behind e xs back (All-tail (λ y. R y e ≡ Less) x xs h))

  pub find-behind : (e : K) (front back : List K) → All (λ y. R y e ≡ Less) front
      → find_row R (λ x. x) e (front ++ back) ≡ find_row R (λ x. x) e back
  find-behind e [] back h = refl
  find-behind e (x ∷ xs) back h =
      ap (λ b. cond b (Some x) (find_row R (λ y. y) e (xs ++ back)))
      (not-behind e x (All-head (λ y. R y e ≡ Less) x xs h))
      ∙ find-behind e xs back (All-tail (λ y. R y e ≡ Less) x xs h)
