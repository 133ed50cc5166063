-- How the program ends over a disk that never falls silent: as over any disk, but that what is opened, or refused, is
-- what the disk held at entry, with no premise on its end.
use Rattle.std.specs.Prelude.{◌≡◌, ◌⊎◌, ℕ, ◌+◌, false, List, Option, Some, None, Ok, Err}
use Rattle.byte_ports.specs.Content.{Lost, LostAtMost}
use Rattle.disk_trait.specs.Memory.{memory_past, calls_of, faults_of}
use Rattle.disk_trait.specs.Past.{Past, Image}
use Rattle.disk_trait.specs.Shows.{Shows}
use Rattle.disk_trait.specs.declared.memory_disk.MemoryDisk.{MemoryDisk}
use Rattle.bbs_model.specs.declared.rows.Rows.{Rows}
use Rattle.bbs_board.specs.Opening.{IsBoard, IsRefused}
use Rattle.bbs_journal.specs.declared.load_fault.LoadFault.{LoadFault}
use Rattle.bbs_journal.specs.declared.load_fault.LoadFault.TheVariants as why
use Rattle.program_ends.specs.Ending.{status_of}
use Rattle.program_ends.specs.Opening.{EndsEarly, Opens}
use Rattle.program_ends.specs.Ports.{Ports}
use Rattle.program_ends.specs.Reading.{ReadsWhole, limit}
use Rattle.program_ends.specs.declared.ending.Ending.{Ending}
use Rattle.program_ends.specs.declared.ending.Ending.TheVariants as ending
use Rattle.program_ends.specs.declared.top_end.TopEnd.{TopEnd}
use Rattle.program_run.specs.Runs.{EndsIdle, EndsUnseen, IsEmpty, PlaysOn}
use Rattle.program_run.specs.declared.ended.Ended.{Ended}
use Rattle.scenario_lines.specs.declared.script.Script.{Script}
use Rattle.scenario_reader.specs.Accepted.{script_of}
use Rattle.scenario_reader.specs.Facts.{IsScript}
use Rattle.scenario_player.specs.Wordings.{Wording}
use Rattle.locket.specs.Lives.{LockLog}
use Rattle.program_tools.specs.declared.words.Asked.{Asked}
use Rattle.program_tools.specs.declared.words.Asked.TheVariants as asked
use Rattle.diego_engine.specs.Top.{EndsInItself, EndsWithLocks, EndsWithoutRun, ports_now, run_of, wording_of}

-- what the disk tells, at every moment
abbrev pub memory_told : MemoryDisk → Option Past
memory_told disk = Some (memory_past disk)

-- the board of the disk was opened, and the scenario played on it
pub record EndsLateInMemory (wording : Wording) (script : Script) (how : Ending) (e : Ended)
    (v w : Ports) : Type 0 where
  pub rows : Rows
  pub between : Ports
  pub found : (image : Image) → Shows v.told image → IsBoard rows image
  pub opens : Opens rows v between
  pub plays : PlaysOn memory_told faults_of calls_of wording script rows how e between w

-- nothing was done, and no board was opened, for this fault, which the content of the disk explains
pub record EndsRefusedInMemory (fault : LoadFault) (how : Ending) (e : Ended) (v w : Ports) : Type 0 where
  pub empty : IsEmpty e
  pub early : EndsEarly false how v w
  pub refused : (image : Image) → Shows v.told image → IsRefused fault image

-- how the run of a scenario ends
abbrev pub ScriptEndsInMemory : Wording → Script → Ending → Ended → Ports → Ports → Type 0
ScriptEndsInMemory wording script ending.Done e v w = EndsLateInMemory wording script ending.Done e v w
ScriptEndsInMemory wording script ending.Doubt e v w = EndsLateInMemory wording script ending.Doubt e v w
ScriptEndsInMemory wording script ending.Unwritten e v w = EndsLateInMemory wording script ending.Unwritten e v w
ScriptEndsInMemory wording script ending.OutOfMemory e v w =
    EndsLateInMemory wording script ending.OutOfMemory e v w ⊎ EndsIdle ending.OutOfMemory e v w
ScriptEndsInMemory wording script (ending.NotABoard area) e v w =
    EndsRefusedInMemory (why.NotABoard area) (ending.NotABoard area) e v w
ScriptEndsInMemory wording script (ending.Damaged area at) e v w =
    EndsRefusedInMemory (why.Damaged area at) (ending.Damaged area at) e v w
ScriptEndsInMemory wording script other e v w = EndsIdle other e v w

-- the source gave a scenario, whose run ended so
pub record RunsScriptInMemory (wording : Wording) (how : Ending) (e : Ended)
    (left left' : Option (List ℕ)) (v w : Ports) : Type 0 where
  pub script : Script
  pub reads : ReadsWhole script_of (Ok script) left left'
  pub sound : IsScript script
  pub ends : ScriptEndsInMemory wording script how e v w

-- how a run ends
abbrev pub RunEndsInMemory : Wording → Ending → Ended → Option (List ℕ) → Option (List ℕ) → Ports → Ports → Type 0
RunEndsInMemory wording (ending.Script fault) e left left' v w =
    EndsUnseen (ending.Script fault) e v w × ReadsWhole script_of (Err fault) left left'
RunEndsInMemory wording ending.Read e left left' v w = EndsUnseen ending.Read e v w × LostAtMost left left' limit
RunEndsInMemory wording ending.TooLong e left left' v w = EndsUnseen ending.TooLong e v w × Lost left left' (limit + 1)
RunEndsInMemory wording ending.OutOfMemory e left left' v w =
    RunsScriptInMemory wording ending.OutOfMemory e left left' v w
    ⊎ (EndsIdle ending.OutOfMemory e v w × LostAtMost left left' limit)
RunEndsInMemory wording how e left left' v w = RunsScriptInMemory wording how e left left' v w

-- how the program ends, whose runs are told in these words
abbrev pub EndsInMemory : Wording → Ending → Option Asked → Ended → LockLog →
    Option (List ℕ) → Option (List ℕ) → Ports → Ports → Type 0
EndsInMemory wording how (Some asked.Run) e locks left left' v w = RunEndsInMemory wording how e left left' v w
EndsInMemory wording how (Some asked.Routes) e locks left left' v w = RunEndsInMemory wording how e left left' v w
EndsInMemory wording how (Some asked.Locks) e locks left left' v w = EndsWithLocks how e locks left left' v w
EndsInMemory wording how (Some asked.Prepare) e locks left left' v w =
    EndsWithoutRun how (Some asked.Prepare) e left left' v w
EndsInMemory wording how (Some asked.Records) e locks left left' v w =
    EndsWithoutRun how (Some asked.Records) e left left' v w
EndsInMemory wording how (Some asked.Check) e locks left left' v w =
    EndsWithoutRun how (Some asked.Check) e left left' v w
EndsInMemory wording how (Some (asked.Generate number)) e locks left left' v w =
    EndsWithoutRun how (Some (asked.Generate number)) e left left' v w
EndsInMemory wording how (Some (asked.Large number)) e locks left left' v w = EndsInItself number how e left left' v w
EndsInMemory wording how None e locks left left' v w = EndsWithoutRun how None e left left' v w

-- a scenario was read and the board of the disk opened, every phase ran on it, nothing is in doubt, and the whole text
-- was written
abbrev pub RunsWholeInMemory : Wording → Ended → Option (List ℕ) → Option (List ℕ) → Ports → Ports → Type 0
RunsWholeInMemory wording e left left' v w = RunsScriptInMemory wording ending.Done e left left' v w

-- what is told of a source and a sink
module _ {S K : Type 0} (left : S → Option (List ℕ)) (held : K → Option (List ℕ)) (write_faults : K → ℕ) where
  abbrev pub seen_in_memory : K → MemoryDisk → Ports
  seen_in_memory sink disk = ports_now held write_faults memory_told faults_of calls_of sink disk

  -- how the program ends that was asked for this and was given these, by what it hands back
  abbrev pub EndsInMemoryAt : Option Asked → S → K → MemoryDisk → TopEnd S K MemoryDisk → Type 0
  EndsInMemoryAt what source sink disk end =
      (how : Ending) × (end.status ≡ status_of how) × EndsInMemory (wording_of what) how what (run_of how end)
      end.locks.items (left source) (left end.source) (seen_in_memory sink disk) (seen_in_memory end.sink end.disk)

  -- a run that was asked for so and was given these did all of its scenario, by what it hands back
  abbrev pub RunsWholeInMemoryAt : Option Asked → S → K → MemoryDisk → TopEnd S K MemoryDisk → Type 0
  RunsWholeInMemoryAt what source sink disk end =
      (how : Ending) × RunsWholeInMemory (wording_of what) (run_of how end)
      (left source) (left end.source) (seen_in_memory sink disk) (seen_in_memory end.sink end.disk)
