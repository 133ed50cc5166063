-- The last line behind a take-over: where all phases that ran were told their number is no greater than there are.
use Rattle.std.proofs.Common.{◌≡◌, ℕ, suc, ◌+◌, ◌-◌, ◌≤◌, List, length, Option, ap, ◌∙◌, arith, length-append}
use Rattle.std.specs.Prelude.{min}
use Rattle.pair_lines.specs.Answers.{summary_line}
use Rattle.pair_lines.specs.declared.answered.PairAnswered.{PairAnswered}
use Rattle.pair_runs.specs.Phases.{PhasesEnd}
use Rattle.pair_runs.specs.Served.{ServerView}
use Rattle.pair_runs.specs.declared.phases.PhasesEnded.{PhasesEnded}
use Rattle.pair_runs.specs.declared.phases.PhasesEnded.TheVariants as ended
use Rattle.program_ends.specs.declared.ending.Ending.{Ending}
use Rattle.scenario_lines.specs.declared.script.Phase.{Phase}
use Rattle.scenario_lines.specs.declared.script.Script.{Script}
use Rattle.pair_top.specs.Runs.{Finishes, counts_of}
use Rattle.pair_top.proofs.Numbers.{finishes_at}

sum_within : (most k count phases sum : ℕ) → 1 ≤ k → k + phases ≤ most + 1 → count ≤ phases → sum ≡ min (k - 1 + count) most
    → sum ≡ k - 1 + count
sum_within most k count phases sum first room few is = omega (arith, is, first, room, few)

module _ (script : Script) (phases : List Phase) (count : ℕ) (v w : ServerView) (before answers : List PairAnswered)
    (held mid : Option (List ℕ)) (writes some : ℕ) where
  few_done : PhasesEnd script phases ended.Done count v w before answers held mid writes some → count ≤ length phases
  few_done ends =
      let parts : length phases ≡ length ends.ran + length ends.rest =
      ap length ends.split ∙ length-append ends.ran ends.rest in
      omega (arith, parts, ends.told_is, ends.stops.2)

  few_doubt : PhasesEnd script phases ended.Doubt count v w before answers held mid writes some → count ≤ length phases
  few_doubt ends =
      let parts : length phases ≡ length ends.ran + length ends.rest =
      ap length ends.split ∙ length-append ends.ran ends.rest in
      let last : length ends.rest ≡ suc (length ends.stops.1.later) = ap length ends.stops.1.split in
      omega (arith, parts, last, ends.told_is, ends.stops.3)

  -- a sum that stops at a number that no count of phases reaches is the sum
  pub finishes_behind : (most k sum start : ℕ) (how : Ending) (held' : Option (List ℕ)) (writes' : ℕ)
      → 1 ≤ k → k + length phases ≤ most + 1 → sum ≡ min (k - 1 + count) most
      → (end : PhasesEnded) → PhasesEnd script phases end count v w before answers held mid writes some
      → Finishes end how (summary_line (counts_of start answers sum k)) mid held' some writes'
      → Finishes end how (summary_line (counts_of start answers (k - 1 + count) k)) mid held' some writes'
  finishes_behind most k sum start how held' writes' first room is ended.Done ends finishes =
      finishes_at ended.Done how (summary_line (counts_of start answers sum k))
      (summary_line (counts_of start answers (k - 1 + count) k)) mid held' some writes'
      (λ same. ap (λ (n : ℕ). summary_line (counts_of start answers n k))
      (sum_within most k count (length phases) sum first room (few_done ends) is)) (λ same. absurd (cc (same))) finishes
  finishes_behind most k sum start how held' writes' first room is ended.Doubt ends finishes =
      finishes_at ended.Doubt how (summary_line (counts_of start answers sum k))
      (summary_line (counts_of start answers (k - 1 + count) k)) mid held' some writes'
      (λ same. absurd (cc (same))) (λ same. ap (λ (n : ℕ). summary_line (counts_of start answers n k))
      (sum_within most k count (length phases) sum first room (few_doubt ends) is)) finishes
  finishes_behind most k sum start how held' writes' first room is ended.Unwritten ends finishes = finishes
  finishes_behind most k sum start how held' writes' first room is ended.OutOfMemory ends finishes = finishes
