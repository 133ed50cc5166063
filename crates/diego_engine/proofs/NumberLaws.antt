-- How the words end that ask for the scenario of a number: it is printed, or it runs in memory.
use Rattle.std.proofs.Common.{◌≡◌, ◌⊎◌, ℕ, ◌∙◌, Bool, true, false, true≢false, List, Option, Some, None, refl, sym, subst, arith, inl, inr}
use Rattle.byte_ports.specs.Cause.{HasCause, Rose}
use Rattle.disk_trait.specs.Past.{Past}
use Rattle.program_ends.specs.Ending.{status_of}
use Rattle.program_ends.specs.Ports.{Ports}
use Rattle.program_ends.specs.declared.ending.Ending.{Ending}
use Rattle.program_ends.specs.declared.ending.Ending.TheVariants as ending
use Rattle.large_runs.specs.Large.{LargeEnds}
use Rattle.large_runs.proofs.Public.{large_complete}
use Rattle.locket.specs.Lives.{LockLog}
use Rattle.scenario_player.specs.Wordings.{Wording}
use Rattle.program_run.specs.declared.ended.Ended.{Ended}
use Rattle.program_tools.specs.Still.{GenerateEnds}
use Rattle.program_tools.specs.Words.{asks_for_number}
use Rattle.program_tools.specs.declared.words.Asked.{Asked}
use Rattle.program_tools.specs.declared.words.Asked.TheVariants as asked
use Rattle.diego_engine.specs.Top.{ProgramEnds}

module _ (e : Ended) (v w : Ports) where
  generate_complete : (number : ℕ) (how : Ending) → GenerateEnds number how v w
      → (Rose v.write_faults w.write_faults → ⊥) → (status_of how ≡ 0) ⊎ (status_of how ≡ 7)
  generate_complete number ending.Done h sink = inl refl
  generate_complete number ending.OutOfMemory h sink = inr refl
  generate_complete number ending.Unwritten h sink = absurd (sink (h.prints.cause.rose refl))
  generate_complete number how h sink = absurd h

  module _ {D : Type 0} (told : D → Option Past) (faults moment : D → ℕ) (wording : Wording) (locks : LockLog)
      (left left' : Option (List ℕ)) where
    abbrev pub Ends : Ending → Option Asked → Type 0
    Ends how what = ProgramEnds told faults moment wording how what e locks left left' v w

    -- nothing but the sink is asked for
    pub number_complete : (how : Ending) (what : Option Asked) → asks_for_number what ≡ true → Ends how what
        → (Rose v.write_faults w.write_faults → ⊥) → (status_of how ≡ 0) ⊎ (status_of how ≡ 7)
    number_complete how (Some (asked.Generate number)) is h sink = generate_complete number how h.still sink
    number_complete how (Some (asked.Large number)) is h sink = large_complete number e _ _ _ _ how h.large sink
    number_complete how (Some asked.Run) is h sink = absurd (cc (is))
    number_complete how (Some asked.Routes) is h sink = absurd (cc (is))
    number_complete how (Some asked.Locks) is h sink = absurd (cc (is))
    number_complete how (Some asked.Prepare) is h sink = absurd (cc (is))
    number_complete how (Some asked.Records) is h sink = absurd (cc (is))
    number_complete how (Some asked.Check) is h sink = absurd (cc (is))
    number_complete how None is h sink = absurd (cc (is))

    -- the scenario of a number ran in memory
    pub large_from : (how : Ending) (what : Option Asked) (number : ℕ) → what ≡ Some (asked.Large number)
        → Ends how what → LargeEnds number how e v.held w.held v.write_faults w.write_faults
    large_from how what number is ends = (subst (λ (x : Option Asked). Ends how x) is ends).large

-- no source was read, which wasn't touched
pub unread_cause : (is_read : Bool) (before now : ℕ) → is_read ≡ false → now ≡ before → HasCause is_read before now
unread_cause is_read before now unread same = record {
  later = omega (arith, same);
  stood = λ is. same;
  rose = λ is. absurd (true≢false (sym is ∙ unread));
}
