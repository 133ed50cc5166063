-- A run that was asked for ends as a run ends.
use Rattle.std.proofs.Common.{◌≡◌, ℕ, true, false, List, Option, Some, None, refl}
use Rattle.disk_trait.specs.Past.{Past}
use Rattle.program_ends.specs.Ports.{Ports}
use Rattle.program_ends.specs.declared.ending.Ending.{Ending}
use Rattle.locket.specs.Lives.{LockLog}
use Rattle.program_run.specs.Runs.{RunEnds}
use Rattle.program_run.specs.declared.ended.Ended.{Ended}
use Rattle.program_tools.specs.Words.{asks_for_locks, asks_for_run, asks_for_source, asks_to_play, number_to_run}
use Rattle.program_tools.specs.declared.words.Asked.{Asked}
use Rattle.program_tools.specs.declared.words.Asked.TheVariants as asked
use Rattle.scenario_player.specs.Wordings.{Wording}
use Rattle.diego_engine.specs.Top.{ProgramEnds}

pub ran : {D : Type 0} (told : D → Option Past) (faults moment : D → ℕ) (wording : Wording) (e : Ended)
    (locks : LockLog) (left left' : Option (List ℕ)) (v w : Ports)
    (how : Ending) (what : Option Asked) → asks_for_run what ≡ true
    → ProgramEnds told faults moment wording how what e locks left left' v w
    → RunEnds told faults moment wording how e left left' v w
ran told faults moment wording e locks left left' v w how (Some asked.Run) is h = h
ran told faults moment wording e locks left left' v w how (Some asked.Routes) is h = h
ran told faults moment wording e locks left left' v w how (Some asked.Locks) is h = absurd (cc (is))
ran told faults moment wording e locks left left' v w how (Some asked.Prepare) is h = absurd (cc (is))
ran told faults moment wording e locks left left' v w how (Some asked.Records) is h = absurd (cc (is))
ran told faults moment wording e locks left left' v w how (Some asked.Check) is h = absurd (cc (is))
ran told faults moment wording e locks left left' v w how (Some (asked.Generate number)) is h = absurd (cc (is))
ran told faults moment wording e locks left left' v w how (Some (asked.Large number)) is h = absurd (cc (is))
ran told faults moment wording e locks left left' v w how None is h = absurd (cc (is))

-- other words ask for no run
pub neither : (what : Option Asked) → (what ≡ Some asked.Run → ⊥) → (what ≡ Some asked.Routes → ⊥)
    → number_to_run what ≡ None → asks_to_play what ≡ false
neither (Some asked.Run) whole routes none = absurd (whole refl)
neither (Some asked.Routes) whole routes none = absurd (routes refl)
neither (Some asked.Locks) whole routes none = refl
neither (Some asked.Prepare) whole routes none = refl
neither (Some asked.Records) whole routes none = refl
neither (Some asked.Check) whole routes none = refl
neither (Some (asked.Generate number)) whole routes none = refl
neither (Some (asked.Large number)) whole routes none = absurd (cc (none))
neither None whole routes none = refl

-- they ask for the run of that number
pub of_number : (what : Option Asked) (number : ℕ) → number_to_run what ≡ Some number → what ≡ Some (asked.Large number)
of_number (Some (asked.Large other)) number is = cc (is)
of_number (Some asked.Run) number is = absurd (cc (is))
of_number (Some asked.Routes) number is = absurd (cc (is))
of_number (Some asked.Locks) number is = absurd (cc (is))
of_number (Some asked.Prepare) number is = absurd (cc (is))
of_number (Some asked.Records) number is = absurd (cc (is))
of_number (Some asked.Check) number is = absurd (cc (is))
of_number (Some (asked.Generate other)) number is = absurd (cc (is))
of_number None number is = absurd (cc (is))

-- what asks for nothing that the source tells asks for no lock commands
pub source_unread : (what : Option Asked) → asks_for_source what ≡ false → asks_for_locks what ≡ false
source_unread (Some asked.Locks) is = absurd (cc (is))
source_unread what is = refl
