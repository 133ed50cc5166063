-- Numbers below a count, in some order.
use Rattle.std.proofs.Common.{◌≡◌, ℕ, zero, suc, ◌+◌, ◌≤◌, List, [], ◌∷◌, ◌++◌, length, take, refl, sym, ap, subst, ◌∙◌, arith, take_all}
use Rattle.std.specs.List.{range_with_len}
use Rattle.std.proofs.lemmas.List.FromFn.{length-range_with_len}
use Rattle.std.specs.List.Sorted.{IsPermutation}
use Rattle.std.proofs.lemmas.List.Sorted.{IsPermutation-append_left, length_permutation}
use Rattle.bbs_index.specs.Order.{AreBelow, IsOrder}
use Rattle.bbs_index.specs.Shelf.{AreNumbered}
use Rattle.bbs_index.proofs.Numbering.{AreNumbered-more}

range_more : (a n k : ℕ) → a + n ≡ k → range_with_len a (n + 1) ≡ range_with_len a n ++ k ∷ []
range_more a zero k is =
    let same : a ≡ k = omega (arith, is) in
    ap (λ m. m ∷ []) same
range_more a (suc n) k is =
    let next : suc (n + 1) ≡ suc n + 1 = omega arith in
    subst (λ m. range_with_len a m ≡ range_with_len a (suc n) ++ k ∷ []) next
    (ap (λ ms. a ∷ ms) (range_more (a + 1) n k (omega (arith, is))))

-- the next number is put behind them
pub AreBelow-more : (n : ℕ) (numbers more : List ℕ) → AreBelow n numbers → more ≡ numbers ++ n ∷ []
    → AreBelow (n + 1) more
AreBelow-more n numbers more are is =
    subst (AreBelow (n + 1)) (sym is)
    (subst (λ ms. IsPermutation ms (numbers ++ n ∷ [])) (sym (range_more 0 n n (omega arith)))
    (IsPermutation-append_left (n ∷ []) (range_with_len 0 n) numbers are))

-- they are as many as the count
pub AreBelow-length : (n : ℕ) (numbers : List ℕ) → AreBelow n numbers → length numbers ≡ n
AreBelow-length n numbers are = length_permutation (range_with_len 0 n) numbers are ∙ length-range_with_len 0 n

pub AreBelow-order : (n : ℕ) (numbers : List ℕ) → AreBelow n numbers → IsOrder numbers
AreBelow-order n numbers are = subst (λ m. AreBelow m numbers) (sym (AreBelow-length n numbers are)) are

fronts : {X : Type 0} (rows : List X) (n : ℕ) → n ≤ length rows → AreNumbered rows (range_with_len 0 n) (take n rows)
fronts rows zero le = refl
fronts rows (suc n) le =
    let next : n + 1 ≡ suc n = omega arith in
    subst (λ m. AreNumbered rows (range_with_len 0 m) (take m rows)) next
    (AreNumbered-more rows (range_with_len 0 n) (range_with_len 0 (n + 1)) n (fronts rows n (omega (arith, le)))
    (omega (arith, le)) (range_more 0 n n (omega arith)))

-- the numbers below the count of rows, as they rise, are those of the rows
pub AreNumbered-range : {X : Type 0} (rows : List X) (n : ℕ) → n ≡ length rows
    → AreNumbered rows (range_with_len 0 n) rows
AreNumbered-range rows n is = subst (λ xs. AreNumbered rows (range_with_len 0 n) xs)
    (take_all n rows (omega (arith, is))) (fronts rows n (omega (arith, is)))
