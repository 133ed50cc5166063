-- Over a disk that tells its past at the end, the ways in which the program ends ask nothing of the end.
use Rattle.std.proofs.Common.{ℕ, List, Option, Some, None, inl, inr}
use Rattle.disk_trait.specs.Memory.{calls_of, faults_of}
use Rattle.program_ends.specs.Ports.{Ports, IsTold}
use Rattle.program_ends.specs.declared.ending.Ending.{Ending}
use Rattle.program_ends.specs.declared.ending.Ending.TheVariants as ending
use Rattle.scenario_player.specs.Wordings.{Wording}
use Rattle.locket.specs.Lives.{LockLog}
use Rattle.program_run.specs.Runs.{EndsLate, RunEnds, RunsScript, ScriptEnds}
use Rattle.program_run.specs.declared.ended.Ended.{Ended}
use Rattle.scenario_lines.specs.declared.script.Script.{Script}
use Rattle.program_tools.specs.declared.words.Asked.{Asked}
use Rattle.program_tools.specs.declared.words.Asked.TheVariants as asked
use Rattle.diego_engine.specs.InMemory.{EndsLateInMemory as SpokenLate, ScriptEndsInMemory as SpokenScript, RunsScriptInMemory as SpokenRun}
use Rattle.diego_engine.specs.InMemory.{EndsInMemory as SpokenEnds, RunEndsInMemory as SpokenEnd, RunsWholeInMemory as SpokenWhole, memory_told}
use Rattle.diego_engine.specs.Top.{ProgramEnds, RunsWhole}
use Rattle.diego_engine.proofs.Recoveries.{opened}

module _ (wording : Wording) (e : Ended) (v w : Ports) (told : IsTold w.told) where
  late : (script : Script) (how : Ending) → EndsLate memory_told faults_of calls_of wording script how e v w
      → SpokenLate wording script how e v w
  late script how ends = record {
    rows = ends.rows;
    between = ends.between;
    found = λ image shows. opened memory_told faults_of calls_of wording e v w script how ends image shows told;
    opens = ends.opens;
    plays = ends.plays;
  }

  script_ends : (script : Script) (how : Ending) → ScriptEnds memory_told faults_of calls_of wording script how e v w
      → SpokenScript wording script how e v w
  script_ends script ending.Done ends = late script ending.Done ends
  script_ends script ending.Doubt ends = late script ending.Doubt ends
  script_ends script ending.Unwritten ends = late script ending.Unwritten ends
  script_ends script ending.OutOfMemory (inl ends) = inl (late script ending.OutOfMemory ends)
  script_ends script ending.OutOfMemory (inr ends) = inr ends
  script_ends script (ending.NotABoard area) (empty, ends) =
      record { empty = empty; early = ends.early; refused = λ image shows. ends.refused image shows told }
  script_ends script (ending.Damaged area at) (empty, ends) =
      record { empty = empty; early = ends.early; refused = λ image shows. ends.refused image shows told }
  script_ends script how ends = ends

  module _ (locks : LockLog) (left left' : Option (List ℕ)) where
    runs : (how : Ending) → RunsScript memory_told faults_of calls_of wording how e left left' v w
        → SpokenRun wording how e left left' v w
    runs how r = record { script = r.script; reads = r.reads; sound = r.sound; ends = script_ends r.script how r.ends }

    run : (how : Ending) → RunEnds memory_told faults_of calls_of wording how e left left' v w
        → SpokenEnd wording how e left left' v w
    run (ending.Script why) ends = ends
    run ending.Read ends = ends
    run ending.TooLong ends = ends
    run ending.OutOfMemory (inl r) = inl (runs ending.OutOfMemory r)
    run ending.OutOfMemory (inr ends) = inr ends
    run how r = runs how r

    pub spoken : (how : Ending) (what : Option Asked) → ProgramEnds memory_told faults_of calls_of wording how what e
        locks left left' v w → SpokenEnds wording how what e locks left left' v w
    spoken how None ends = ends
    spoken how (Some asked.Locks) ends = ends
    spoken how (Some asked.Prepare) ends = ends
    spoken how (Some asked.Records) ends = ends
    spoken how (Some asked.Check) ends = ends
    spoken how (Some (asked.Generate number)) ends = ends
    spoken how (Some (asked.Large number)) ends = ends
    spoken how (Some asked.Run) ends = run how ends
    spoken how (Some asked.Routes) ends = run how ends

    pub spoken_whole : RunsWhole memory_told faults_of calls_of wording e left left' v w
        → SpokenWhole wording e left left' v w
    spoken_whole r = runs ending.Done r
