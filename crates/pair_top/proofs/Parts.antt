-- The phases of a script, cut before phase k.
use Rattle.std.proofs.Common.{◌≡◌, ℕ, ◌+◌, ◌-◌, ◌<◌, ◌≤◌, List, ◌++◌, length, take, drop, sym, ap, subst, ◌∙◌, arith}
use Rattle.std.proofs.lemmas.List.{take-append-drop}
use Rattle.scenario_lines.specs.declared.script.Phase.{Phase}
use Rattle.pair_top.specs.Runs.{phases_before}
use Rattle.pair_top.proofs.Numbers.{is_behind, is_first, is_within}

module _ (k all n : ℕ) (xs ys before behind : List Phase) (same : ys ≡ xs) (all_is : all ≡ length ys)
    (n_is : n ≡ phases_before k all) (front : before ≡ take n ys) (back : behind ≡ drop n ys)
    (front_len : length before ≡ n) (back_len : length behind + n ≡ length ys) where
  pub parts : xs ≡ before ++ behind
  parts = sym same ∙ sym (take-append-drop n ys) ∙ ap (λ (l : List Phase). l ++ drop n ys) (sym front)
      ∙ ap (λ (l : List Phase). before ++ l) (sym back)

  all_of : all ≡ length xs
  all_of = all_is ∙ ap length same

  pub few_before : length before ≤ phases_before k (length xs)
  few_before = subst (λ (m : ℕ). length before ≤ phases_before k m) all_of (omega (arith, front_len, n_is))

  module _ (left : 0 < length behind) where
    is_left : phases_before k all < all
    is_left = omega (arith, left, n_is, all_is, back_len)

    pub k_first : 1 ≤ k
    k_first = is_first k all is_left

    pub k_within : k ≤ length xs
    k_within = subst (λ (m : ℕ). k ≤ m) all_of (is_within k all is_left)

    pub behind_at : length before ≡ k - 1
    behind_at = front_len ∙ n_is ∙ is_behind k all is_left

    pub room_for : (top : ℕ) → all < top → k + length behind ≤ top
    room_for top below = omega (arith, below, behind_at, k_first, front_len, back_len, all_is)
