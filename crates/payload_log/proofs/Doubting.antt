-- Each doubt has a fault of the disk for its cause.
use Rattle.std.proofs.Common.{◌≡◌, ℕ, ◌+◌, Bool, true, false, List, [], ◌∷◌, ◌++◌, refl, ap, arith}
use Rattle.std.specs.Prelude.{not}
use Rattle.byte_ports.specs.Cause.{HasCause}
use Rattle.payload_log.specs.Doubts.{RoseBy}
use Rattle.payload_log.specs.Entries.{entry_of, doubts_in}
use Rattle.payload_log.specs.declared.entry.Entry.{Entry}
use Rattle.payload_log.specs.declared.entry.Entry.TheVariants.{Done, Doubt}

module _ {X : Type 0} where
  doubts-done : (log : List (Entry X)) (x : X) → doubts_in (log ++ Done x ∷ []) ≡ doubts_in log
  doubts-done [] x = refl
  doubts-done (Done y ∷ log) x = doubts-done log x
  doubts-done (Doubt y ∷ log) x = ap (λ (n : ℕ). n + 1) (doubts-done log x)

  doubts-doubt : (log : List (Entry X)) (x : X) → doubts_in (log ++ Doubt x ∷ []) ≡ doubts_in log + 1
  doubts-doubt [] x = refl
  doubts-doubt (Done y ∷ log) x = doubts-doubt log x
  doubts-doubt (Doubt y ∷ log) x = ap (λ (n : ℕ). n + 1) (doubts-doubt log x)

  -- what adds a doubt has met a fault, and nothing takes one back
  pub rose_more : (log : List (Entry X)) (ok : Bool) (x : X) (faults before after : ℕ)
      → RoseBy (doubts_in log) faults before → HasCause (not ok) before after
      → RoseBy (doubts_in (log ++ entry_of ok x ∷ [])) faults after
  rose_more log true x faults before after rose cause =
      let later = cause.later in
      omega (arith, rose, later, doubts-done log x)
  rose_more log false x faults before after rose cause =
      let once = cause.rose refl in
      omega (arith, rose, once, doubts-doubt log x)
