-- What is recovered, from each way in which the program ends.
use Rattle.std.proofs.Common.{◌≡◌, ℕ, ◌≤◌, true, List, [], Option, Some, None, refl, sym, subst, arith, inl, inr}
use Rattle.disk_trait.specs.Past.{Past, Image}
use Rattle.disk_trait.specs.Steps.{Goes}
use Rattle.disk_trait.proofs.Public.{goes_same}
use Rattle.disk_trait.specs.Runs.{Extends}
use Rattle.disk_trait.specs.Shows.{Shows, KeepsContent}
use Rattle.bbs_model.specs.declared.item.Item.{Item}
use Rattle.bbs_board.specs.Doubts.{doubts_in, RoseForEach}
use Rattle.bbs_board.specs.Opening.{IsBoard}
use Rattle.diego_engine.specs.Headline.{BoardTakesLog}
use Rattle.program_ends.specs.Opening.{EndsUnopened}
use Rattle.program_ends.specs.Ports.{Ports, IsTold}
use Rattle.program_ends.specs.declared.ending.Ending.{Ending}
use Rattle.program_ends.specs.declared.ending.Ending.TheVariants as ending
use Rattle.program_ends.proofs.Public.{keeps_same}
use Rattle.scenario_player.specs.Wordings.{Wording}
use Rattle.large_runs.proofs.Public.{large_calm}
use Rattle.locket.specs.Lives.{LockLog}
use Rattle.lock_runs.proofs.Public as lock
use Rattle.program_run.specs.Runs.{EndsIdle, EndsLate, EndsUnseen, IsEmpty, RunEnds, ScriptEnds}
use Rattle.program_run.specs.declared.ended.Ended.{Ended}
use Rattle.scenario_lines.specs.declared.script.Script.{Script}
use Rattle.program_tools.proofs.Public.{later_from}
use Rattle.program_tools.specs.Words.{asks_for_run}
use Rattle.program_tools.specs.declared.words.Asked.{Asked}
use Rattle.program_tools.specs.declared.words.Asked.TheVariants as asked
use Rattle.diego_engine.specs.Top.{ProgramEnds}
use Rattle.diego_engine.proofs.Ran.{ran}
use Rattle.diego_engine.proofs.SinceEntry.{recovers_resting, recovers_on}

-- a disk that tells its past at the end told it before
pub told_back : (between told' : Option Past) (Does : Past → Past → Type 0) → Goes between told' Does → IsTold told'
    → IsTold between
told_back None None Does goes is = absurd is
told_back None (Some r) Does goes is = absurd goes
told_back (Some q) told' Does goes is = tt

module _ {D : Type 0} (told : D → Option Past) (faults moment : D → ℕ) (wording : Wording) (e : Ended)
    (v w : Ports) where
  abbrev pub HasRecovery : Type 0
  HasRecovery = BoardTakesLog e.log.items e.marks.items v.told w.told v.disk_faults w.disk_faults

  -- what was opened is the board that the disk held
  pub opened : (script : Script) (how : Ending) (late : EndsLate told faults moment wording script how e v w)
      (image : Image) → Shows v.told image → IsTold w.told
      → IsBoard late.rows image
  opened script how late image shows is =
      late.opens.found image (late.opens.still image shows
      (told_back late.between.told w.told Extends late.plays.extends is))

  -- a run that did nothing
  empty : IsEmpty e → v.disk_faults ≤ w.disk_faults → Goes v.told w.told KeepsContent → HasRecovery
  empty is le goes =
      subst (λ (log : List Item). BoardTakesLog log e.marks.items v.told w.told v.disk_faults w.disk_faults)
      (sym is.log)
      (subst (λ (marks : List ℕ). BoardTakesLog [] marks v.told w.told v.disk_faults w.disk_faults) (sym is.marks)
      (recovers_resting v.told w.told v.disk_faults w.disk_faults le goes))

  untouched : (how : Ending) → EndsUnseen how e v w → HasRecovery
  untouched how ends =
      empty ends.0 (omega (arith, ends.1.faults))
      (subst (λ (t : Option Past). Goes v.told t KeepsContent) (sym ends.1.told)
      (goes_same v.told KeepsContent (λ p is. keeps_same p)))

  rests : (how : Ending) → EndsUnopened how v w → (v.disk_faults ≤ w.disk_faults) × Goes v.told w.told KeepsContent
  rests ending.Unopened ends = (ends.cause.later, ends.rests)
  rests (ending.NotABoard area) ends = (ends.early.cause.later, ends.early.rests)
  rests (ending.Damaged area at) ends = (ends.early.cause.later, ends.early.rests)
  rests ending.OutOfMemory ends = (ends.cause.later, ends.rests)
  rests how never = absurd never

  idle : (how : Ending) → EndsIdle how e v w → HasRecovery
  idle how (is, ends) = let (le, goes) = rests how ends in empty is le goes

  -- a run that played its scenario on a board
  late : (script : Script) (how : Ending) → EndsLate told faults moment wording script how e v w → HasRecovery
  late script how ends =
      recovers_on v.told ends.between.told w.told ends.rows e.log.items e.marks.items ends.between.clock v.disk_faults
      w.disk_faults
      (opened script how ends) ends.opens.secures ends.plays.extends ends.opens.timed ends.plays.lawful ends.plays.kept
      (subst (λ (n : ℕ). RoseForEach (doubts_in e.log.items) n w.disk_faults) ends.opens.no_fault ends.plays.doubts)

  of_script : (script : Script) (how : Ending) → ScriptEnds told faults moment wording script how e v w → HasRecovery
  of_script script ending.Done ends = late script ending.Done ends
  of_script script ending.Doubt ends = late script ending.Doubt ends
  of_script script ending.Unwritten ends = late script ending.Unwritten ends
  of_script script ending.OutOfMemory (inl ends) = late script ending.OutOfMemory ends
  of_script script ending.OutOfMemory (inr ends) = idle ending.OutOfMemory ends
  of_script script how ends = idle how ends

  -- ---- doubts

  abbrev pub HasCauses : Type 0
  HasCauses = RoseForEach (doubts_in e.log.items) v.disk_faults w.disk_faults

  none : IsEmpty e → v.disk_faults ≤ w.disk_faults → HasCauses
  none is le = subst (λ (log : List Item). RoseForEach (doubts_in log) v.disk_faults w.disk_faults) (sym is.log)
      (omega (arith, le))

  none_idle : (how : Ending) → EndsIdle how e v w → HasCauses
  none_idle how (is, ends) = none is (rests how ends).0

  none_unseen : (how : Ending) → EndsUnseen how e v w → HasCauses
  none_unseen how (is, ends) = let stands = ends.faults in none is (omega (arith, stands))

  late_causes : (script : Script) (how : Ending) → EndsLate told faults moment wording script how e v w → HasCauses
  late_causes script how ends = subst (λ (n : ℕ). RoseForEach (doubts_in e.log.items) n w.disk_faults)
      ends.opens.no_fault ends.plays.doubts

  script_causes : (script : Script) (how : Ending) → ScriptEnds told faults moment wording script how e v w → HasCauses
  script_causes script ending.Done ends = late_causes script ending.Done ends
  script_causes script ending.Doubt ends = late_causes script ending.Doubt ends
  script_causes script ending.Unwritten ends = late_causes script ending.Unwritten ends
  script_causes script ending.OutOfMemory (inl ends) = late_causes script ending.OutOfMemory ends
  script_causes script ending.OutOfMemory (inr ends) = none_idle ending.OutOfMemory ends
  script_causes script how ends = none_idle how ends

  module _ (locks : LockLog) (left left' : Option (List ℕ)) where
    by_ending : (how : Ending) → RunEnds told faults moment wording how e left left' v w → HasRecovery
    by_ending (ending.Script why) ends = untouched (ending.Script why) ends.0
    by_ending ending.Read ends = untouched ending.Read ends.0
    by_ending ending.TooLong ends = untouched ending.TooLong ends.0
    by_ending ending.OutOfMemory (inl runs) = of_script runs.script ending.OutOfMemory runs.ends
    by_ending ending.OutOfMemory (inr (ends, lost)) = idle ending.OutOfMemory ends
    by_ending how runs = of_script runs.script how runs.ends

    pub recovery_from : (how : Ending) (what : Option Asked) → asks_for_run what ≡ true
        → ProgramEnds told faults moment wording how what e locks left left' v w → HasRecovery
    recovery_from how what is ends = by_ending how (ran told faults moment wording e locks left left' v w how what is
        ends)

    run_causes : (how : Ending) → RunEnds told faults moment wording how e left left' v w → HasCauses
    run_causes (ending.Script why) ends = none_unseen (ending.Script why) ends.0
    run_causes ending.Read ends = none_unseen ending.Read ends.0
    run_causes ending.TooLong ends = none_unseen ending.TooLong ends.0
    run_causes ending.OutOfMemory (inl runs) = script_causes runs.script ending.OutOfMemory runs.ends
    run_causes ending.OutOfMemory (inr (ends, lost)) = none_idle ending.OutOfMemory ends
    run_causes how runs = script_causes runs.script how runs.ends

    pub doubts_from : (how : Ending) (what : Option Asked)
        → ProgramEnds told faults moment wording how what e locks left left' v w → HasCauses
    doubts_from how (Some asked.Run) ends = run_causes how ends
    doubts_from how (Some asked.Routes) ends = run_causes how ends
    doubts_from how (Some asked.Locks) ends =
        let later = lock.later_from locks e.marks.items left left' v w how ends.ends in
        subst (λ (log : List Item). RoseForEach (doubts_in log) v.disk_faults w.disk_faults) (sym ends.log)
        (omega (arith, later))
    doubts_from how (Some asked.Prepare) ends = none ends.empty (later_from v w how (Some asked.Prepare) ends.still)
    doubts_from how (Some asked.Records) ends = none ends.empty (later_from v w how (Some asked.Records) ends.still)
    doubts_from how (Some asked.Check) ends = none ends.empty (later_from v w how (Some asked.Check) ends.still)
    doubts_from how (Some (asked.Generate number)) ends =
        none ends.empty (later_from v w how (Some (asked.Generate number)) ends.still)
    doubts_from how (Some (asked.Large number)) ends =
        let calm = large_calm number e _ _ _ _ how ends.large in
        let stands = ends.faults in
        omega (arith, calm, stands)
    doubts_from how None ends = none ends.empty (later_from v w how None ends.still)
