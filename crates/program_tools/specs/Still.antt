-- How the words end that ask for no run, by what the source gave, and what the sink and the disk did.
use Rattle.std.specs.Prelude.{◌≡◌, ◌≢◌, ◌⊎◌, Bool, true, false, List, [], Option, Some, None, Result, Ok, Err, ℕ}
use Rattle.byte_ports.specs.Cause.{HasCause, Rose}
use Rattle.disk_trait.specs.Past.{Past, Image}
use Rattle.disk_trait.specs.Shows.{Shows, Secures}
use Rattle.disk_trait.specs.Steps.{Goes}
use Rattle.disk_trait.specs.declared.area.Area.TheVariants.{A, B}
use Rattle.bbs_journal.specs.Preparing.{PreparesBy}
use Rattle.bbs_journal.specs.declared.load_fault.LoadFault.{LoadFault}
use Rattle.bbs_journal.specs.declared.preparing.PrepareFault.{PrepareFault}
use Rattle.bbs_journal.specs.declared.preparing.PrepareFault.TheVariants.{Disk, NotEmpty}
use Rattle.bbs_model.specs.declared.rows.Rows.{Rows}
use Rattle.bbs_board.specs.Opening.{IsBoard, IsRefused}
use Rattle.record_print.specs.declared.check.Check.{Check}
use Rattle.locket.specs.Lives.{LockLog}
use Rattle.locket.specs.Opening.{IsNotLocket}
use Rattle.lock_lines.specs.Reading.{lock_lines_of}
use Rattle.lock_runs.specs.Runs.{LocksEnd, MeetsLocks, StopsLocks}
use Rattle.program_ends.specs.Ending.{line_of}
use Rattle.program_ends.specs.Opening.{EndsUntouched, EndsUnopened}
use Rattle.program_ends.specs.Ports.{Ports, IsTold, Prints}
use Rattle.program_ends.specs.Reading.{ReadsWhole}
use Rattle.program_ends.specs.declared.ending.Ending.{Ending}
use Rattle.program_ends.specs.declared.ending.Ending.TheVariants as ending
use Rattle.scenario_reader.specs.Accepted.{script_of}
use Rattle.scenario_reader.specs.declared.fault.ScriptFault.{ScriptFault}
use Rattle.scenario_maker.specs.Generated.{generated}
use Rattle.program_tools.specs.Records.{records_text, IsCheckOf, check_line}
use Rattle.program_tools.specs.declared.words.Asked.{Asked}
use Rattle.program_tools.specs.declared.words.Asked.TheVariants as asked

-- what a disk holds has P, which was told by this text, written whole or not; a read gives what it gave, no stop
-- leaves anything else, and no device call failed
pub record Shown (P : Image → Type 0) (text : List ℕ) (whole : Bool) (v w : Ports) : Type 0 where
  pub found : (image : Image) → Shows v.told image → IsTold w.told → P image
  pub secures : Goes v.told w.told Secures
  pub no_fault : w.disk_faults ≡ v.disk_faults
  pub prints : Prints whole text v w

-- the rows of the board that the disk holds were printed
abbrev pub ShowsRecords : Bool → Ports → Ports → Type 0
ShowsRecords whole v w = (rows : Rows) × Shown (IsBoard rows) (records_text rows) whole v w

-- how `records` ends
abbrev pub RecordsEnds : Ending → Ports → Ports → Type 0
RecordsEnds ending.Done v w = ShowsRecords true v w
RecordsEnds ending.Unwritten v w = ShowsRecords false v w
RecordsEnds other v w = EndsUnopened other v w

-- where the disk keeps its board was printed
abbrev pub ShowsCheck : Bool → Ports → Ports → Type 0
ShowsCheck whole v w = (check : Check) × Shown (IsCheckOf check) (check_line check) whole v w

-- how `check` ends
abbrev pub CheckEnds : Ending → Ports → Ports → Type 0
CheckEnds ending.Done v w = ShowsCheck true v w
CheckEnds ending.Unwritten v w = ShowsCheck false v w
CheckEnds other v w = EndsUnopened other v w

-- a preparing with this answer ended with the line of the ending
pub record Prepared (answer : Result (Unit {0}) PrepareFault) (failed : Bool) (how : Ending) (v w : Ports) : Type 0 where
  pub does : Goes v.told w.told (PreparesBy answer)
  pub cause : HasCause failed v.disk_faults w.disk_faults
  pub whole : Bool
  pub prints : Prints whole (line_of how) v w

-- how `prepare` ends
abbrev pub PrepareEnds : Ending → Ports → Ports → Type 0
PrepareEnds ending.Done v w = Prepared (Ok tt) false ending.Done v w
PrepareEnds ending.Exists v w = Prepared (Err NotEmpty) false ending.Exists v w
PrepareEnds ending.Unopened v w = Prepared (Err Disk) true ending.Unopened v w
PrepareEnds other v w = ⊥

-- the scenario of a number was printed, written whole or not, and the disk is untouched
pub record PrintsScenario (number : ℕ) (whole : Bool) (v w : Ports) : Type 0 where
  pub told : w.told ≡ v.told
  pub faults : w.disk_faults ≡ v.disk_faults
  pub prints : Prints whole (generated number) v w

-- how `generate` ends
abbrev pub GenerateEnds : ℕ → Ending → Ports → Ports → Type 0
GenerateEnds number ending.Done v w = PrintsScenario number true v w
GenerateEnds number ending.Unwritten v w = PrintsScenario number false v w
GenerateEnds number ending.OutOfMemory v w = EndsUntouched ending.OutOfMemory v w
GenerateEnds number other v w = ⊥

-- how words outside the grammar end
abbrev pub UsageEnds : Ending → Ports → Ports → Type 0
UsageEnds ending.Usage v w = EndsUntouched ending.Usage v w
UsageEnds other v w = ⊥

-- how words end that ask nothing of the source
abbrev pub StillEnds : Ending → Option Asked → Ports → Ports → Type 0
StillEnds how (Some asked.Run) v w = ⊥
StillEnds how (Some asked.Routes) v w = ⊥
StillEnds how (Some asked.Locks) v w = ⊥
StillEnds how (Some asked.Prepare) v w = PrepareEnds how v w
StillEnds how (Some asked.Records) v w = RecordsEnds how v w
StillEnds how (Some asked.Check) v w = CheckEnds how v w
StillEnds how (Some (asked.Generate number)) v w = GenerateEnds number how v w
StillEnds how (Some (asked.Large number)) v w = ⊥
StillEnds how None v w = UsageEnds how v w

-- how words that ask for no run end, by what they did to a locket and to the source
abbrev pub AskedEnds : Ending → Option Asked → LockLog → List ℕ →
    Option (List ℕ) → Option (List ℕ) → Ports → Ports → Type 0
AskedEnds how (Some asked.Locks) locks marks left left' v w = LocksEnd how locks marks left left' v w
AskedEnds how other locks marks left left' v w = StillEnds how other v w

-- the source was read whole, and this is the first fault of what was to be read
abbrev pub ReadsFault : Option Asked → ScriptFault → Option (List ℕ) → Option (List ℕ) → Type 0
ReadsFault (Some asked.Locks) fault left left' = ReadsWhole lock_lines_of (Err fault) left left'
ReadsFault other fault left left' = ReadsWhole script_of (Err fault) left left'

-- the content of a disk is refused for this, as a lock journal or as a board
abbrev pub IsRefusedFor : Option Asked → LoadFault → Image → Type 0
IsRefusedFor (Some asked.Locks) why image = IsNotLocket why image
IsRefusedFor other why image = IsRefused why image

-- no fault of the source was counted, where the word reads it
abbrev pub ReadsWell : Option Asked → ℕ → ℕ → Type 0
ReadsWell (Some asked.Locks) faults faults' = Rose faults faults' → ⊥
ReadsWell other faults faults' = Unit {0}

-- the disk tells that it holds a board
pub record MeetsBoard (told : Option Past) : Type 0 where
  pub rows : Rows
  pub image : Image
  pub shows : Shows told image
  pub board : IsBoard rows image

-- the source and the disk tell what the word asks for: two empty areas, a board, lock commands and a lock journal, or
-- nothing at all
abbrev pub MeetsStill : Option Asked → Option (List ℕ) → Option Past → Type 0
MeetsStill (Some asked.Run) left told = ⊥
MeetsStill (Some asked.Routes) left told = ⊥
MeetsStill (Some asked.Locks) left told = MeetsLocks left told
MeetsStill (Some asked.Prepare) left told = Shows told (λ area. [])
MeetsStill (Some asked.Records) left told = MeetsBoard told
MeetsStill (Some asked.Check) left told = MeetsBoard told
MeetsStill (Some (asked.Generate number)) left told = Unit {0}
MeetsStill (Some (asked.Large number)) left told = ⊥
MeetsStill None left told = ⊥

-- the disk tells that it holds no board, with this first defect
pub record MeetsNoBoard (told : Option Past) : Type 0 where
  pub why : LoadFault
  pub image : Image
  pub shows : Shows told image
  pub refused : IsRefused why image

-- the disk tells that an area isn't empty
pub record MeetsBytes (told : Option Past) : Type 0 where
  pub image : Image
  pub shows : Shows told image
  pub bytes : (image A ≢ []) ⊎ (image B ≢ [])

-- the source and the disk tell what stops the word, by the status that it then has: an area that isn't empty, or no
-- board, or what stops lock commands
abbrev pub MeetsObstacle : Option Asked → ℕ → Option (List ℕ) → Option Past → Type 0
MeetsObstacle (Some asked.Run) status left told = ⊥
MeetsObstacle (Some asked.Routes) status left told = ⊥
MeetsObstacle (Some asked.Locks) status left told = StopsLocks status left told
MeetsObstacle (Some asked.Prepare) status left told = (status ≡ 9) × MeetsBytes told
MeetsObstacle (Some asked.Records) status left told = (status ≡ 6) × MeetsNoBoard told
MeetsObstacle (Some asked.Check) status left told = (status ≡ 6) × MeetsNoBoard told
MeetsObstacle (Some (asked.Generate number)) status left told = ⊥
MeetsObstacle (Some (asked.Large number)) status left told = ⊥
MeetsObstacle None status left told = ⊥

-- the word ends with the status of what stops it; the line of a defect may want memory
abbrev pub IsStopped : Option Asked → ℕ → ℕ → Type 0
IsStopped (Some asked.Prepare) wanted status = status ≡ wanted
IsStopped other wanted status = (status ≡ wanted) ⊎ (status ≡ 7)
