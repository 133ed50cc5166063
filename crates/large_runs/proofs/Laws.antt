-- What each status says of the run of the scenario of a number.
use Rattle.std.proofs.Common.{◌≡◌, ◌⊎◌, ◌==◌, ◌||◌, ◌∙◌, ℕ, Bool, true, false, true≢false, List, Option, refl, ap, inl, inr}
use Rattle.byte_ports.specs.Cause.{Rose}
use Rattle.bbs_board.specs.Doubts.{doubts_in}
use Rattle.program_ends.specs.Ending.{status_of}
use Rattle.program_ends.specs.declared.ending.Ending.{Ending}
use Rattle.program_ends.specs.declared.ending.Ending.TheVariants as ending
use Rattle.program_run.specs.declared.ended.Ended.{Ended}
use Rattle.large_runs.specs.Large.{LargeEnds}

-- such a run may have this status
abbrev may_be : ℕ → Bool
may_be n = (n == 0) || ((n == 4) || (n == 7))

module _ (number : ℕ) (e : Ended) (held held' : Option (List ℕ)) (faults faults' : ℕ) where
  abbrev pub Ends : Ending → Type 0
  Ends how = LargeEnds number how e held held' faults faults'

  -- it has no other
  pub large_never : (how : Ending) (n : ℕ) → may_be n ≡ false → status_of how ≡ n → Ends how → ⊥
  large_never ending.Done n other is h = true≢false (ap may_be is ∙ other)
  large_never ending.Unwritten n other is h = true≢false (ap may_be is ∙ other)
  large_never ending.OutOfMemory n other is h = true≢false (ap may_be is ∙ other)
  large_never how n other is h = absurd h

  -- no source was read
  pub large_no_read : (how : Ending) → Ends how → (status_of how == 3) ≡ false
  large_no_read ending.Done h = refl
  large_no_read ending.Unwritten h = refl
  large_no_read ending.OutOfMemory h = refl
  large_no_read how h = absurd h

  pub large_unwritten : (how : Ending) → status_of how ≡ 4 → Ends how → Rose faults faults'
  large_unwritten ending.Unwritten n h = h.prints.cause.rose refl
  large_unwritten ending.Done n h = absurd (cc (n))
  large_unwritten ending.OutOfMemory n h = absurd (cc (n))
  large_unwritten how n h = absurd h

  pub large_complete : (how : Ending) → Ends how → (Rose faults faults' → ⊥)
      → (status_of how ≡ 0) ⊎ (status_of how ≡ 7)
  large_complete ending.Done h sink = inl refl
  large_complete ending.OutOfMemory h sink = inr refl
  large_complete ending.Unwritten h sink = absurd (sink (h.prints.cause.rose refl))
  large_complete how h sink = absurd h

  -- nothing of it is in doubt
  pub large_calm : (how : Ending) → Ends how → doubts_in e.log.items ≡ 0
  large_calm ending.Done h = h.ran.calm
  large_calm ending.Unwritten h = h.ran.calm
  large_calm ending.OutOfMemory h = elim h.did [
    | inl ran ↦ ran.calm
    | inr empty ↦ ap doubts_in empty.log
  ]
  large_calm how h = absurd h
