-- What a run did, from each way in which the program ends.
use Rattle.std.proofs.Common.{◌≡◌, ℕ, true, List, Option, Ok, sym, subst, inl, inr}
use Rattle.disk_trait.specs.Past.{Past}
use Rattle.bbs_model.specs.Replay.{IsLawful}
use Rattle.bbs_model.specs.Valid.{IsValid}
use Rattle.bbs_model.specs.declared.item.Item.{Item}
use Rattle.bbs_model.specs.declared.rows.Rows.{Rows}
use Rattle.program_ends.specs.Ports.{Ports}
use Rattle.program_ends.specs.Reading.{ReadsWhole}
use Rattle.program_ends.specs.declared.ending.Ending.{Ending}
use Rattle.program_ends.specs.declared.ending.Ending.TheVariants as ending
use Rattle.scenario_player.specs.Wordings.{Wording}
use Rattle.locket.specs.Lives.{LockLog}
use Rattle.program_run.specs.Runs.{EndsLate, IsEmpty, RunEnds, ScriptEnds}
use Rattle.program_run.specs.declared.ended.Ended.{Ended}
use Rattle.run_theorem.specs.Ends.{IsTimely}
use Rattle.run_theorem.specs.Laws.{PlayedPhasesEndInTime}
use Rattle.scenario_lines.specs.declared.script.Script.{Script}
use Rattle.scenario_reader.specs.Accepted.{script_of}
use Rattle.scenario_reader.specs.Facts.{IsScript}
use Rattle.program_tools.specs.Words.{asks_for_run}
use Rattle.program_tools.specs.declared.words.Asked.{Asked}
use Rattle.diego_engine.specs.Headline.{DidRun, Headline, IsFaithfulTo, IsIdle}
use Rattle.diego_engine.specs.Top.{ProgramEnds}
use Rattle.diego_engine.proofs.InTime.{in_time}
use Rattle.diego_engine.proofs.Ran.{ran}
use Rattle.diego_engine.proofs.Recoveries.{opened, recovery_from}

module _ {D : Type 0} (told : D → Option Past) (faults moment : D → ℕ) (wording : Wording)
    (law : PlayedPhasesEndInTime told) (e : Ended)
    (locks : LockLog) (left left' : Option (List ℕ)) (v w : Ports) where
  -- by the ending, of what is told here
  abbrev pub Did : Ending → Type 0
  Did how = DidRun how e.log.items e.marks.items e.answers.items e.reports.items left left' v.told w.told

  abbrev pub DidFaithfully : Ending → Type 0
  DidFaithfully how = IsFaithfulTo how e.log.items e.marks.items e.answers.items e.reports.items left left' v.told w.told

  -- it is timely by what a board tells
  abbrev Timely : Script → Ending → Rows → List Item → List ℕ → Option Past → Option Past → Type 0
  Timely script how rows log marks t t' = IsTimely script how e.answers.items e.reports.items rows log marks t t'

  -- a scenario that was played on a board
  played : (script : Script) (how : Ending) → IsScript script
      → (late : EndsLate told faults moment wording script how e v w)
      → Timely script how late.rows e.log.items e.marks.items late.between.told w.told
  played script how sound late =
      let p = late.plays in
      subst (λ (t : Option Past). Timely script how late.rows e.log.items e.marks.items t w.told) (sym p.opened.told_is)
      (subst (λ (t : Option Past). Timely script how late.rows e.log.items e.marks.items (told p.board.disk) t)
      (sym p.closed.told_is)
      (subst (λ (rows : Rows). Timely script how rows e.log.items e.marks.items (told p.board.disk) (told p.left.disk))
      p.base
      (subst (λ (log : List Item). Timely script how p.board.base log e.marks.items (told p.board.disk) (told p.left.disk))
      (sym p.log)
      (subst (λ (marks : List ℕ). Timely script how p.board.base p.left.log marks (told p.board.disk) (told p.left.disk))
      (sym p.marks)
      (law wording script how e.answers.items e.reports.items p.board p.left late.between.held w.held
      late.between.write_faults w.write_faults sound
      p.fresh (subst IsValid (sym p.base) p.valid)
      (subst (λ (rows : Rows). IsLawful rows p.left.log) (sym p.base)
      (subst (λ (log : List Item). IsLawful late.rows log) p.log p.lawful)) p.plays)))))

  faithfully : (script : Script) (how : Ending) → ReadsWhole script_of (Ok script) left left' → IsScript script
      → EndsLate told faults moment wording script how e v w
      → DidFaithfully how
  faithfully script how reads sound late =
      let timely = played script how sound late in
      record {
        script = script;
        rows = late.rows;
        reads = reads;
        opened = opened told faults moment wording e v w script how late;
        faithful = timely.faithful;
        ends = in_time script how e.answers.items e.reports.items late.rows e.log.items e.marks.items v late.between
            w.told late.opens late.plays.extends timely;
      }

  idle : IsEmpty e → IsIdle e.log.items e.answers.items e.reports.items
  idle is = (is.log, is.answers, is.reports)

  starved : (script : Script) → ReadsWhole script_of (Ok script) left left' → IsScript script
      → ScriptEnds told faults moment wording script ending.OutOfMemory e v w
      → Did ending.OutOfMemory
  starved script reads sound (inl late) = inl (faithfully script ending.OutOfMemory reads sound late)
  starved script reads sound (inr ends) = inr (idle ends.0)

  did : (how : Ending) → RunEnds told faults moment wording how e left left' v w → Did how
  did ending.Done runs = faithfully runs.script ending.Done runs.reads runs.sound runs.ends
  did ending.Doubt runs = faithfully runs.script ending.Doubt runs.reads runs.sound runs.ends
  did ending.Unwritten runs = faithfully runs.script ending.Unwritten runs.reads runs.sound runs.ends
  did ending.OutOfMemory (inl runs) = starved runs.script runs.reads runs.sound runs.ends
  did ending.OutOfMemory (inr (ends, lost)) = inr (idle ends.0)
  did (ending.Script why) ends = idle ends.0.0
  did ending.Read ends = idle ends.0.0
  did ending.TooLong ends = idle ends.0.0
  did ending.Usage runs = idle runs.ends.0
  did ending.Exists runs = idle runs.ends.0
  did ending.Unopened runs = idle runs.ends.0
  did (ending.NotABoard area) runs = idle runs.ends.0
  did (ending.Damaged area at) runs = idle runs.ends.0

  pub headline_from : (how : Ending) (what : Option Asked) → asks_for_run what ≡ true
      → ProgramEnds told faults moment wording how what e locks left left' v w
      → Headline how e.log.items e.marks.items e.answers.items e.reports.items left left' v.told w.told v.disk_faults
      w.disk_faults
  headline_from how what is ends = record {
    recovery = recovery_from told faults moment wording e v w locks left left' how what is ends;
    run = did how (ran told faults moment wording e locks left left' v w how what is ends);
  }
