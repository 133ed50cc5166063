-- How many phases come before a take-over, and the number of the phase before which it came.
use Rattle.std.proofs.Common.{◌≡◌, ℕ, ◌-◌, ◌<◌, ◌≤◌, List, Option, refl, subst, arith}
use Rattle.std.proofs.lemmas.Bool.Decides.{nat_tests}
use Rattle.pair_runs.specs.declared.phases.PhasesEnded.{PhasesEnded}
use Rattle.pair_runs.specs.declared.phases.PhasesEnded.TheVariants as ended
use Rattle.program_ends.specs.declared.ending.Ending.{Ending}
use Rattle.pair_top.specs.Runs.{Finishes, IsToldTakeover, phases_before, takeover_in}

-- none came, where all that ran stood before it
pub never_due : (k phases told : ℕ) → told ≤ phases_before k phases → takeover_in k told ≡ 0
never_due k phases told few = grind (arith, nat_tests)

-- it came, where its phase is one of those that ran
pub due : (k told : ℕ) → 1 ≤ k → k ≤ told → takeover_in k told ≡ k
due k told first ran = grind (arith, nat_tests)

-- phases are left for the other board only where the script has phase k
pub is_first : (k phases : ℕ) → phases_before k phases < phases → 1 ≤ k
is_first k phases left = grind (arith, nat_tests)

pub is_within : (k phases : ℕ) → phases_before k phases < phases → k ≤ phases
is_within k phases left = grind (arith, nat_tests)

pub is_behind : (k phases : ℕ) → phases_before k phases < phases → phases_before k phases ≡ k - 1
is_behind k phases left = grind (arith, nat_tests)

pub told_never : (how : PhasesEnded) (k told : ℕ) → takeover_in k told ≡ 0 → IsToldTakeover how k told 0
told_never ended.Done k told is = cc
told_never ended.Doubt k told is = cc
told_never ended.Unwritten k told is = tt
told_never ended.OutOfMemory k told is = tt

-- where not all that ran were told there is no last line
pub finishes_at : (end : PhasesEnded) (how : Ending) (line line' : List ℕ) (held held' : Option (List ℕ))
    (faults faults' : ℕ) → (end ≡ ended.Done → line ≡ line') → (end ≡ ended.Doubt → line ≡ line')
    → Finishes end how line held held' faults faults' → Finishes end how line' held held' faults faults'
finishes_at ended.Done how line line' held held' faults faults' done doubt finishes =
    subst (λ (l : List ℕ). Finishes ended.Done how l held held' faults faults') (done refl) finishes
finishes_at ended.Doubt how line line' held held' faults faults' done doubt finishes =
    subst (λ (l : List ℕ). Finishes ended.Doubt how l held held' faults faults') (doubt refl) finishes
finishes_at ended.Unwritten how line line' held held' faults faults' done doubt finishes = finishes
finishes_at ended.OutOfMemory how line line' held held' faults faults' done doubt finishes = finishes
