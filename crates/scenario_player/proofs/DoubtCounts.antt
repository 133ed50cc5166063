-- Doubts, counted one item after another.
use Rattle.std.proofs.Common.{◌≡◌, ℕ, ◌+◌, ◌<◌, ◌≤◌, List, [], ◌∷◌, ◌++◌, length, take, get_or, sym, ap, ◌∙◌, arith}
use Rattle.std.proofs.lemmas.List.{length-take, take_more}
use Rattle.bbs_model.specs.declared.item.Item.{Item}
use Rattle.bbs_model.specs.declared.item.Item.TheVariants.{Done, Doubt}
use Rattle.bbs_board.specs.Doubts.{doubts_in}

both : (xs ys : List Item) → doubts_in (xs ++ ys) ≡ doubts_in xs + doubts_in ys
both [] ys = omega arith
both (Done by c ∷ xs) ys = both xs ys
both (Doubt by c ∷ xs) ys = let rest = both xs ys in omega (arith, rest)

-- no more than there are items
pub few_doubts : (xs : List Item) → doubts_in xs ≤ length xs
few_doubts [] = omega arith
few_doubts (Done by c ∷ xs) = let rest = few_doubts xs in omega (arith, rest)
few_doubts (Doubt by c ∷ xs) = let rest = few_doubts xs in omega (arith, rest)

pub few_taken : (xs : List Item) (n : ℕ) → doubts_in (take n xs) ≤ length xs
few_taken xs n = let few = few_doubts (take n xs) in let count = length-take n xs in omega (arith, few, count)

-- one item more
pub one_counted : (xs : List Item) (k : ℕ) (d : Item) → k < length xs → d ≡ get_or xs k d → (so_far more : ℕ)
    → so_far ≡ doubts_in (take k xs) → more ≡ doubts_in (d ∷ []) → so_far + more ≡ doubts_in (take (k + 1) xs)
one_counted xs k d within is so_far more first next =
    let whole : doubts_in (take (k + 1) xs) ≡ doubts_in (take k xs) + doubts_in (d ∷ []) =
    ap doubts_in (take_more xs k d within ∙ ap (λ (i : Item). take k xs ++ i ∷ []) (sym is)) ∙ both (take k xs)
    (d ∷ []) in
    omega (arith, first, next, whole)
