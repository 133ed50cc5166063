-- How many items of a log are doubts.
use Rattle.std.proofs.Common.{◌≡◌, ◌≤◌, List, [], ◌∷◌, length, refl, sym, ◌∙◌, arith}
use Rattle.std.specs.Prelude.{count_by, filter}
use Rattle.std.proofs.lemmas.List.Sums.{length-filter}
use Rattle.bbs_board.specs.Doubts.{doubts_in}
use Rattle.bbs_model.specs.declared.item.Item.{Item}
use Rattle.bbs_model.specs.declared.item.Item.TheVariants.{Done, Doubt}
use Rattle.pair_top.specs.Runs.{is_doubt}

doubts_filtered : (xs : List Item) → length (filter is_doubt xs) ≡ doubts_in xs
doubts_filtered [] = refl
doubts_filtered (Done by c ∷ xs) = doubts_filtered xs
doubts_filtered (Doubt by c ∷ xs) = let rest = doubts_filtered xs in omega (arith, rest)

pub count_is : (xs : List Item) → count_by is_doubt xs ≡ doubts_in xs
count_is xs = sym (length-filter is_doubt xs) ∙ doubts_filtered xs

-- no more than there are items
pub few_doubts : (xs : List Item) → doubts_in xs ≤ length xs
few_doubts [] = omega arith
few_doubts (Done by c ∷ xs) = let rest = few_doubts xs in omega (arith, rest)
few_doubts (Doubt by c ∷ xs) = let rest = few_doubts xs in omega (arith, rest)
