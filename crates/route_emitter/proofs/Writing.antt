-- A row that is written over another one, where it fits.
use Rattle.std.proofs.Common.{◌≡◌, ℕ, zero, suc, ◌+◌, ◌<◌, ◌≤◌, false, cond, List, [], ◌∷◌, ◌++◌, length, take, drop, set, get_or, Some, is_some, refl, sym, ap, subst, ◌∙◌, arith}
use Rattle.std.specs.Prelude.{remove}
use Rattle.std.specs.declared.cmp.Ordering.{Ordering}
use Rattle.std.specs.declared.cmp.Ordering.TheVariants.{Less}
use Rattle.std.specs.FinMap.Entries.{by_order}
use Rattle.std.specs.Ordering.{is_eq}
use Rattle.std.specs.List.{All}
use Rattle.std.proofs.lemmas.List.{drop-set, take-append-drop, take-set}
use Rattle.std.proofs.lemmas.List.Elements.{All-cons, All-head, All-nil, All-tail, All-weaker}
use Rattle.row_tables.specs.Table.{IsKeyOrder, find_row, IsRising, put_row}
use Rattle.row_tables.proofs.Public.{All-above, below_rest, IsRising-tail}
use Rattle.route_emitter.proofs.Placing.{find-behind, put-behind}

module _ {K : Type 0} (R : K → K → Ordering) (o : IsKeyOrder R) where
  -- what is above a row is above all before it, and what is below one is below all behind it
  pub below-through : (e : K) (xs : List K) (i : ℕ) (d : K) → IsRising R (λ x. x) xs → i < length xs
      → R (get_or xs i d) e ≡ Less → All (λ y. R y e ≡ Less) (take (i + 1) xs)
  below-through e [] i d rising lt less = absurd (omega (arith, lt))
  below-through e (x ∷ xs) zero d rising lt less = All-cons (λ y. R y e ≡ Less) x [] less (All-nil (λ y. R y e ≡ Less))
  below-through e (x ∷ xs) (suc i) d rising lt less =
      let lower : i < length xs = omega (arith, lt) in
      let above = All-above R (λ y. y) x xs (below_rest R (λ y. y) x xs rising) i d lower in
      let next : suc i + 1 ≡ suc (i + 1) = omega arith in
      subst (λ n. All (λ y. R y e ≡ Less) (take n (x ∷ xs))) (sym next)
      (All-cons (λ y. R y e ≡ Less) x (take (i + 1) xs) (o.total.trans x (get_or xs i d) e above less)
      (below-through e xs i d (IsRising-tail R (λ y. y) x xs rising) lower less))

  pub above-through : (e : K) (xs : List K) (i : ℕ) (d : K) → IsRising R (λ x. x) xs → i < length xs
      → R e (get_or xs i d) ≡ Less → All (λ y. R e y ≡ Less) (drop i xs)
  above-through e [] i d rising lt less = absurd (omega (arith, lt))
  above-through e (x ∷ xs) zero d rising lt less =
      All-cons (λ y. R e y ≡ Less) x xs less
      (All-weaker (λ y. R x y ≡ Less) (λ y. R e y ≡ Less) (λ y h. o.total.trans e x y less h) xs
      (All-above R (λ y. y) x xs (below_rest R (λ y. y) x xs rising)))
  above-through e (x ∷ xs) (suc i) d rising lt less = above-through e xs i d (IsRising-tail R (λ y. y) x xs rising)
      (omega (arith, lt)) less

  -- a row below all others is put first
  put-first : (e : K) (xs : List K) → All (λ y. R e y ≡ Less) xs → put_row R (λ x. x) e xs ≡ e ∷ xs
  put-first e [] h = refl
  put-first e (x ∷ xs) h = ap (λ c. by_order c (e ∷ x ∷ xs) (e ∷ xs) (x ∷ put_row R (λ y. y) e xs))
      (All-head (λ y. R e y ≡ Less) x xs h)

  absent-first : (e : K) (xs : List K) → All (λ y. R e y ≡ Less) xs → is_some (find_row R (λ x. x) e xs) ≡ false
  absent-first e [] h = refl
  absent-first e (x ∷ xs) h =
      ap (λ c. is_some (cond (is_eq c) (Some x) (find_row R (λ y. y) e xs))) (All-head (λ y. R e y ≡ Less) x xs h)
      ∙ absent-first e xs (All-tail (λ y. R e y ≡ Less) x xs h)

  set-parts : (xs : List K) (i : ℕ) (e : K) → i < length xs → set xs i e ≡ take i xs ++ e ∷ drop (suc i) xs
  set-parts xs i e lt =
      let next : i + 1 ≡ suc i = omega arith in
      sym (take-append-drop i (set xs i e)) ∙ (λ k. take-set xs i e k ++ drop-set xs i e lt k) ∙ ap
      (λ n. take i xs ++ e ∷ drop n xs) next

  -- one that fits is written over another one, or that one goes and it comes
  pub written : (e : K) (xs : List K) (i : ℕ) → i < length xs → All (λ y. R y e ≡ Less) (take i xs)
      → All (λ y. R e y ≡ Less) (drop (suc i) xs) → set xs i e ≡ put_row R (λ x. x) e (remove xs i)
  written e xs i lt low high =
      set-parts xs i e lt
      ∙ ap (λ (ys : List K). take i xs ++ ys) (sym (put-first e (drop (suc i) xs) high))
      ∙ sym (put-behind R o e (take i xs) (drop (suc i) xs) low)

  pub absent : (e : K) (xs : List K) (i : ℕ) → All (λ y. R y e ≡ Less) (take i xs)
      → All (λ y. R e y ≡ Less) (drop (suc i) xs) → is_some (find_row R (λ x. x) e (remove xs i)) ≡ false
  absent e xs i low high = ap (λ s. is_some s) (find-behind R o e (take i xs) (drop (suc i) xs) low) ∙ absent-first e
      (drop (suc i) xs) high
