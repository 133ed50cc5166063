-- A log of which each item was done has no doubt.
use Rattle.std.proofs.Common.{◌≡◌, true, false, true≢false, List, [], ◌∷◌, refl, sym}
use Rattle.bbs_board.specs.Doubts.{doubts_in}
use Rattle.bbs_model.specs.declared.item.Item.{Item}
use Rattle.bbs_model.specs.declared.item.Item.TheVariants.{Done, Doubt}
use Rattle.large_runs.specs.Large.{is_calm}

pub no_doubts : (log : List Item) → is_calm log ≡ true → doubts_in log ≡ 0
no_doubts [] calm = refl
no_doubts (Done by command ∷ more) calm = no_doubts more calm
no_doubts (Doubt by command ∷ more) calm = absurd (true≢false (sym calm))
