-- Each doubt has a fault of the disk for its cause.
use Rattle.std.proofs.Common.{◌≡◌, ℕ, ◌+◌, Bool, true, false, List, [], ◌∷◌, ◌++◌, refl, ap, arith}
use Rattle.std.specs.Prelude.{not}
use Rattle.byte_ports.specs.Cause.{HasCause}
use Rattle.bbs_model.specs.declared.command.Command.{Command}
use Rattle.bbs_model.specs.declared.item.Item.{Item}
use Rattle.bbs_model.specs.declared.item.Item.TheVariants.{Done, Doubt}
use Rattle.bbs_board.specs.Doubts.{doubts_in, RoseForEach}
use Rattle.bbs_board.specs.Puts.{item_of}

doubts-done : (log : List Item) (by : ℕ) (c : Command) → doubts_in (log ++ Done by c ∷ []) ≡ doubts_in log
doubts-done [] by c = refl
doubts-done (Done b d ∷ log) by c = doubts-done log by c
doubts-done (Doubt b d ∷ log) by c = ap (λ (n : ℕ). n + 1) (doubts-done log by c)

doubts-doubt : (log : List Item) (by : ℕ) (c : Command) → doubts_in (log ++ Doubt by c ∷ []) ≡ doubts_in log + 1
doubts-doubt [] by c = refl
doubts-doubt (Done b d ∷ log) by c = doubts-doubt log by c
doubts-doubt (Doubt b d ∷ log) by c = ap (λ (n : ℕ). n + 1) (doubts-doubt log by c)

doubts-append : (xs ys : List Item) → doubts_in (xs ++ ys) ≡ doubts_in xs + doubts_in ys
doubts-append [] ys = omega arith
doubts-append (Done b d ∷ xs) ys = doubts-append xs ys
doubts-append (Doubt b d ∷ xs) ys = let rest = doubts-append xs ys in omega (arith, rest)

-- a log without doubts has none in its parts
pub no_doubts : (xs ys : List Item) → doubts_in (xs ++ ys) ≡ 0 → (doubts_in xs ≡ 0) × (doubts_in ys ≡ 0)
no_doubts xs ys none = let parts = doubts-append xs ys in (omega (arith, none, parts), omega (arith, none, parts))

-- a call that adds a doubt has met a fault, and no call takes one back
pub rose_more : (log : List Item) (ok : Bool) (by : ℕ) (c : Command) (faults before after : ℕ)
    → RoseForEach (doubts_in log) faults before → HasCause (not ok) before after
    → RoseForEach (doubts_in (log ++ item_of ok by c ∷ [])) faults after
rose_more log true by c faults before after rose cause =
    let later = cause.later in
    omega (arith, rose, later, doubts-done log by c)
rose_more log false by c faults before after rose cause =
    let once = cause.rose refl in
    omega (arith, rose, once, doubts-doubt log by c)
