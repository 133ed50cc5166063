-- What a search by rising numbers finds.
use Rattle.std.proofs.Common.{◌≡◌, ℕ, zero, suc, ◌<◌, ◌≤◌, ltb, true, false, cond, ◌==◌, List, [], ◌∷◌, length, get_or, find, Some, sym, ap, ◌∙◌, arith, eq-eqb, ⊎_elim}
use Rattle.std.specs.List.{AllPairs}
use Rattle.std.specs.List.Sorted.{IsNonDecreasingBy, IsPartitionPoint}
use Rattle.std.proofs.lemmas.List.{get_or_default}
use Rattle.std.proofs.lemmas.Bool.{cases_lt, lt-ltb}
use Rattle.std.proofs.lemmas.Bool.Decides.{nat_tests}

module _ {X : Type 0} (number : X → ℕ) where
  -- numbers that rise don't fall
  pub falls_nowhere : (xs : List X) → AllPairs (λ a b. number a < number b) xs → IsNonDecreasingBy number xs
  falls_nowhere xs h i j d le l =
      ⊎_elim
      (λ (lt : i < j). let rises : number (get_or xs i d) < number (get_or xs j d) = h i j d lt l in omega arith)
      (λ (ge : j ≤ i). let one : i ≡ j = omega arith in let e : number (get_or xs i d) ≡ number (get_or xs j d) =
      ap (λ k. number (get_or xs k d)) one in omega arith)
      (cases_lt i j)

  unlike : (m n : ℕ) → (m ≡ n → ⊥) → (m == n) ≡ false
  unlike m n h = grind (arith, nat_tests)

  -- the first with a number is found
  find_first : (n : ℕ) (xs : List X) (i : ℕ) (d : X) → ((j : ℕ) → j < i → number (get_or xs j d) ≡ n → ⊥)
      → i < length xs → number (get_or xs i d) ≡ n → find (λ x. number x == n) xs ≡ Some (get_or xs i d)
  find_first n [] i d before l here = absurd (omega arith)
  find_first n (x ∷ xs) zero d before l here = ap (λ b. cond b (Some x) (find (λ y. number y == n) xs))
      (eq-eqb (number x) n here)
  find_first n (x ∷ xs) (suc i) d before l here =
      ap (λ b. cond b (Some x) (find (λ y. number y == n) xs)) (unlike (number x) n (before zero (omega arith)))
      ∙ find_first n xs i d (λ j lt e. before (suc j) (omega arith) e) (omega arith) here

  module _ (n : ℕ) (xs : List X) (rising : AllPairs (λ a b. number a < number b) xs) (i : ℕ)
      (point : IsPartitionPoint (λ y. ltb (number y) n ≡ true) (λ y. ltb (number y) n ≡ false) xs i) (k : ℕ)
      (there : k < length xs) (d : X) (has : number (get_or xs k d) ≡ n) where
    not_behind : i ≤ k
    not_behind =
        ⊎_elim
        (λ (lt : k < i). let less : ltb (number (get_or xs k d)) n ≡ true = point.0 k d (omega arith) lt in
        absurd (grind (arith, nat_tests)))
        (λ (ge : i ≤ k). ge)
        (cases_lt k i)

    -- the point that parts lesser numbers from the others is where the number stands
    pub point_is_there : i ≡ k
    point_is_there =
        ⊎_elim
        (λ (lt : i < k).
        let rises : number (get_or xs i d) < number (get_or xs k d) = rising i k d lt there in
        let less : ltb (number (get_or xs i d)) n ≡ true = lt-ltb (number (get_or xs i d)) n (omega arith) in
        let more : ltb (number (get_or xs i d)) n ≡ false = point.1 i d (omega arith) (omega arith) in
        absurd cc)
        (λ (ge : k ≤ i). let back = not_behind in omega arith)
        (cases_lt i k)

    pub found_at_point : find (λ x. number x == n) xs ≡ Some (get_or xs k d)
    found_at_point =
        find_first n xs k d
        (λ j lt e. let rises : number (get_or xs j d) < number (get_or xs k d) = rising j k d lt there in omega arith)
        there has

    -- what stands at the point is what is found
    pub found_read : (x : X) → x ≡ get_or xs i x → find (λ y. number y == n) xs ≡ Some x
    found_read x at = found_at_point ∙ ap Some (get_or_default xs k d x there ∙ ap (λ j. get_or xs j x)
        (sym point_is_there) ∙ sym at)
