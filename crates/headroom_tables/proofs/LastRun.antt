-- An index is put behind the last of some runs.
use Rattle.std.proofs.Common.{◌≡◌, ℕ, List, [], ◌∷◌, ◌++◌, refl, ap}
use Rattle.headroom_tables.specs.declared.runs.Run.{Run}
use Rattle.headroom_tables.specs.Runs.{extended, followed}

pub extended_last : (rs : List Run) (r : Run) (n : ℕ) → extended (rs ++ r ∷ []) n ≡ rs ++ followed r n
unfolding extended
extended_last [] r n = refl
extended_last (q ∷ []) r n = refl
extended_last (q ∷ p ∷ ps) r n = ap (λ rs. q ∷ rs) (extended_last (p ∷ ps) r n)
