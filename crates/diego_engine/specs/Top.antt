-- How the program ends, by what it was asked, what the source gave, and what the sink and the disk did.
use Rattle.std.specs.Prelude.{◌≡◌, ℕ, List, [], Option, Some, None, Ok, Err}
use Rattle.byte_ports.specs.Cause.{Rose}
use Rattle.disk_trait.specs.Past.{Past, Image}
use Rattle.disk_trait.specs.Shows.{Shows}
use Rattle.bbs_model.specs.declared.rows.Rows.{Rows}
use Rattle.bbs_board.specs.Opening.{IsBoard}
use Rattle.program_ends.specs.Ending.{status_of}
use Rattle.program_ends.specs.Ports.{IsTold, Ports, ports_of}
use Rattle.program_ends.specs.Reading.{ReadsWhole, TellsAs}
use Rattle.program_ends.specs.declared.ending.Ending.{Ending}
use Rattle.program_ends.specs.declared.ending.Ending.TheVariants as ending
use Rattle.program_ends.specs.declared.top_end.TopEnd.{TopEnd}
use Rattle.scenario_player.specs.Wordings.{Wording, whole_wording}
use Rattle.route_runs.specs.Wording.{route_wording}
use Rattle.large_runs.specs.Large.{LargeEnds}
use Rattle.program_run.specs.Runs.{IsEmpty, RunEnds, RunsScript}
use Rattle.program_run.specs.declared.ended.Ended.{Ended}
use Rattle.scenario_lines.specs.declared.script.Script.{Script}
use Rattle.scenario_reader.specs.Accepted.{script_of}
use Rattle.scenario_reader.specs.declared.fault.ScriptFault.{ScriptFault}
use Rattle.locket.specs.Lives.{LockLog}
use Rattle.lock_lines.specs.Reading.{lock_lines_of}
use Rattle.lock_lines.specs.declared.lock_line.LockLine.{LockLine}
use Rattle.lock_runs.specs.Runs.{LocksEnd, MeetsLocks, MeetsNoLocket}
use Rattle.program_tools.specs.Still.{MeetsNoBoard, StillEnds}
use Rattle.program_tools.specs.declared.words.Asked.{Asked}
use Rattle.program_tools.specs.declared.words.Asked.TheVariants as asked

-- words that ask for no run ended so: no call was made, and nothing was taken from the source
pub record EndsWithoutRun (how : Ending) (what : Option Asked) (e : Ended) (left left' : Option (List ℕ)) (v w : Ports) : Type 0 where
  pub empty : IsEmpty e
  pub still : StillEnds how what v w
  pub unread : left' ≡ left

-- words that ask for lock commands ended so: no call was made on a board
pub record EndsWithLocks (how : Ending) (e : Ended) (locks : LockLog) (left left' : Option (List ℕ))
    (v w : Ports) : Type 0 where
  pub log : e.log.items ≡ []
  pub answers : e.answers.items ≡ []
  pub reports : e.reports.items ≡ []
  pub ends : LocksEnd how locks e.marks.items left left' v w

-- words that ask for the run of the scenario of a number ended so: it ran in memory, and the source and the disk are
-- untouched
pub record EndsInItself (number : ℕ) (how : Ending) (e : Ended) (left left' : Option (List ℕ)) (v w : Ports) : Type 0 where
  pub large : LargeEnds number how e v.held w.held v.write_faults w.write_faults
  pub unread : left' ≡ left
  pub told : w.told ≡ v.told
  pub faults : w.disk_faults ≡ v.disk_faults

-- in what words the run is told that was asked for; where none was, nothing is
abbrev pub wording_of : Option Asked → Wording
wording_of (Some asked.Run) = whole_wording
wording_of (Some asked.Routes) = route_wording
wording_of other = λ script phase answers report base before after. []

-- how the program ends, whose runs are told in these words
abbrev pub ProgramEnds : {D : Type 0} → (D → Option Past) → (D → ℕ) → (D → ℕ) → Wording → Ending → Option Asked → Ended →
    LockLog → Option (List ℕ) → Option (List ℕ) → Ports → Ports → Type 0
ProgramEnds told faults moment wording how (Some asked.Run) e locks left left' v w =
    RunEnds told faults moment wording how e left left' v w
ProgramEnds told faults moment wording how (Some asked.Routes) e locks left left' v w =
    RunEnds told faults moment wording how e left left' v w
ProgramEnds told faults moment wording how (Some asked.Locks) e locks left left' v w =
    EndsWithLocks how e locks left left' v w
ProgramEnds told faults moment wording how (Some asked.Prepare) e locks left left' v w =
    EndsWithoutRun how (Some asked.Prepare) e left left' v w
ProgramEnds told faults moment wording how (Some asked.Records) e locks left left' v w =
    EndsWithoutRun how (Some asked.Records) e left left' v w
ProgramEnds told faults moment wording how (Some asked.Check) e locks left left' v w =
    EndsWithoutRun how (Some asked.Check) e left left' v w
ProgramEnds told faults moment wording how (Some (asked.Generate number)) e locks left left' v w =
    EndsWithoutRun how (Some (asked.Generate number)) e left left' v w
ProgramEnds told faults moment wording how (Some (asked.Large number)) e locks left left' v w =
    EndsInItself number how e left left' v w
ProgramEnds told faults moment wording how None e locks left left' v w = EndsWithoutRun how None e left left' v w

-- what was asked for came as far as the opening: if it asks for what the source tells, once the source gave that
abbrev pub ReachesOpening : Option Asked → Option (List ℕ) → Option (List ℕ) → Type 0
ReachesOpening (Some asked.Run) left left' = (script : Script) × ReadsWhole script_of (Ok script) left left'
ReachesOpening (Some asked.Routes) left left' = (script : Script) × ReadsWhole script_of (Ok script) left left'
ReachesOpening (Some asked.Locks) left left' = (lines : List LockLine) × ReadsWhole lock_lines_of (Ok lines) left left'
ReachesOpening (Some asked.Prepare) left left' = ⊥
ReachesOpening (Some asked.Records) left left' = Unit {0}
ReachesOpening (Some asked.Check) left left' = Unit {0}
ReachesOpening (Some (asked.Generate number)) left left' = ⊥
ReachesOpening (Some (asked.Large number)) left left' = ⊥
ReachesOpening None left left' = ⊥

-- no fault of a port was counted meanwhile
abbrev pub NoFault : ℕ → ℕ → Type 0
NoFault faults faults' = Rose faults faults' → ⊥

-- at the end the disk tells its past still, and no fault of it was counted meanwhile
abbrev pub TellsWithoutFault : Option Past → ℕ → ℕ → Type 0
TellsWithoutFault told' faults faults' = IsTold told' × NoFault faults faults'

-- the source tells a scenario that isn't too long, and the disk a board with these rows
pub record Meets (left : Option (List ℕ)) (told : Option Past) : Type 0 where
  pub script : Script
  pub rows : Rows
  pub image : Image
  pub source : TellsAs script_of (Ok script) left
  pub shows : Shows told image
  pub board : IsBoard rows image

-- the source tells bytes with this first fault, which were asked for
abbrev pub TellsFault : Option Asked → ScriptFault → Option (List ℕ) → Type 0
TellsFault (Some asked.Run) fault left = TellsAs script_of (Err fault) left
TellsFault (Some asked.Routes) fault left = TellsAs script_of (Err fault) left
TellsFault (Some asked.Locks) fault left = TellsAs lock_lines_of (Err fault) left
TellsFault other fault left = ⊥

-- the source tells what was asked for, and the disk that it holds no board for it, or no lock journal
abbrev pub MeetsNothing : Option Asked → Option (List ℕ) → Option Past → Type 0
MeetsNothing (Some asked.Run) left told =
    ((script : Script) × TellsAs script_of (Ok script) left) × MeetsNoBoard told
MeetsNothing (Some asked.Routes) left told =
    ((script : Script) × TellsAs script_of (Ok script) left) × MeetsNoBoard told
MeetsNothing (Some asked.Locks) left told =
    ((lines : List LockLine) × TellsAs lock_lines_of (Ok lines) left) × MeetsNoLocket told
MeetsNothing other left told = ⊥

-- the source tells what was asked for, and the disk a board for it, or a lock journal; a number is all that its
-- scenario asks for
abbrev pub MeetsAll : Option Asked → Option (List ℕ) → Option Past → Type 0
MeetsAll (Some asked.Run) left told = Meets left told
MeetsAll (Some asked.Routes) left told = Meets left told
MeetsAll (Some asked.Locks) left told = MeetsLocks left told
MeetsAll (Some (asked.Generate number)) left told = Unit {0}
MeetsAll (Some (asked.Large number)) left told = Unit {0}
MeetsAll other left told = ⊥

-- a scenario was read and a board opened, every phase ran on it, nothing is in doubt, and the whole text was written
abbrev pub RunsWhole : {D : Type 0} → (D → Option Past) → (D → ℕ) → (D → ℕ) → Wording → Ended →
    Option (List ℕ) → Option (List ℕ) → Ports → Ports → Type 0
RunsWhole told faults moment wording e left left' v w = RunsScript told faults moment wording ending.Done e left left' v w

-- what the program handed back of its run
abbrev pub run_of : {S K D : Type 0} → Ending → TopEnd S K D → Ended
run_of how end = record {
  ending = how;
  log = end.log;
  marks = end.marks;
  answers = end.answers;
  reports = end.reports;
}

-- what a sink and a disk tell of themselves
abbrev pub ports_now : {K D : Type 0} → (K → Option (List ℕ)) → (K → ℕ) → (D → Option Past) → (D → ℕ) → (D → ℕ) → K → D → Ports
ports_now held write_faults told faults moment sink disk =
    ports_of (held sink) (write_faults sink) (told disk) (faults disk) (moment disk)

-- what is told of a source, a sink and a disk
module _ {S K D : Type 0} (left : S → Option (List ℕ)) (held : K → Option (List ℕ)) (write_faults : K → ℕ)
    (told : D → Option Past) (faults moment : D → ℕ) where
  -- how the program ends that was asked for this and was given these, by what it hands back
  abbrev pub EndsAt : Option Asked → S → K → D → TopEnd S K D → Type 0
  EndsAt what source sink disk end =
      (how : Ending) × (end.status ≡ status_of how) × ProgramEnds told faults moment (wording_of what) how what (run_of how end)
      end.locks.items (left source) (left end.source) (ports_now held write_faults told faults moment sink disk)
      (ports_now held write_faults told faults moment end.sink end.disk)

  -- a run that was asked for so and was given these did all of its scenario, by what it hands back
  abbrev pub RunsWholeAt : Option Asked → S → K → D → TopEnd S K D → Type 0
  RunsWholeAt what source sink disk end =
      (how : Ending) × RunsWhole told faults moment (wording_of what) (run_of how end)
      (left source) (left end.source) (ports_now held write_faults told faults moment sink disk)
      (ports_now held write_faults told faults moment end.sink end.disk)
