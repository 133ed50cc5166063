-- What came behind a log without doubts.
use Rattle.std.proofs.Common.{◌≡◌, ℕ, List, [], ◌∷◌, ◌++◌, length, take, drop, refl, sym, ap, ◌∙◌, arith}
use Rattle.std.proofs.Math.Seq.{drop-append_seam, take-append_seam}
use Rattle.bbs_model.specs.declared.item.Item.{Item}
use Rattle.bbs_model.specs.declared.item.Item.TheVariants.{Done, Doubt}
use Rattle.bbs_board.specs.Doubts.{doubts_in}

doubts_behind : (xs ys : List Item) → doubts_in xs ≡ 0 → doubts_in (xs ++ ys) ≡ doubts_in ys
doubts_behind [] ys none = refl
doubts_behind (Done by c ∷ xs) ys none = doubts_behind xs ys none
doubts_behind (Doubt by c ∷ xs) ys none = absurd (omega (arith, none))

-- the doubts of the whole log are those of what came
pub doubts_since : (before log fresh : List Item) → doubts_in before ≡ 0 → log ≡ before ++ fresh
    → doubts_in (drop (length before) log) ≡ doubts_in log
doubts_since before log fresh none grows =
    ap (λ (xs : List Item). doubts_in (drop (length before) xs)) grows
    ∙ ap doubts_in (drop-append_seam before fresh)
    ∙ sym (doubts_behind before fresh none)
    ∙ ap doubts_in (sym grows)

-- up to the place at which it stood before, the whole log is what it was
pub log_before : (before log fresh : List Item) (from : ℕ) → from ≡ length before → log ≡ before ++ fresh
    → take from log ≡ before
log_before before log fresh from is grows =
    ap (λ (n : ℕ). take n log) is ∙ ap (take (length before)) grows ∙ take-append_seam before fresh
