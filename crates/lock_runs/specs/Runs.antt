-- How a script of lock commands ends, by what the source gave, and what the sink and the disk did.
use Rattle.std.specs.Prelude.{◌≡◌, ◌⊎◌, ℕ, ◌+◌, ◌≤◌, true, false, List, [], ◌++◌, Option, Some, None, option_to_list, Result, Ok, Err}
use Rattle.std.specs.Option.{ForSome}
use Rattle.byte_ports.specs.Content.{Lost, LostAtMost}
use Rattle.disk_trait.specs.Past.{Past, Image}
use Rattle.disk_trait.specs.Runs.{Extends}
use Rattle.disk_trait.specs.Shows.{Shows}
use Rattle.disk_trait.specs.Steps.{Goes}
use Rattle.bbs_journal.specs.declared.load_fault.LoadFault.{LoadFault}
use Rattle.payload_log.specs.Doubts.{RoseBy}
use Rattle.payload_log.specs.Entries.{doubts_in}
use Rattle.locket.specs.Kept.{KeptLocks}
use Rattle.locket.specs.Lives.{LockLog, IsLawful, IsLife, lived, state_of}
use Rattle.locket.specs.Opening.{IsLocket, IsNotLocket, RefusesLocket}
use Rattle.locket.specs.declared.command.LockCommand.{LockCommand}
use Rattle.lock_lines.specs.Reading.{lock_lines_of}
use Rattle.lock_lines.specs.declared.lock_line.LockLine.{LockLine}
use Rattle.program_ends.specs.Opening.{EndsClosed, EndsUntouched, OpensWhat}
use Rattle.program_ends.specs.Ports.{Ports, Prints}
use Rattle.program_ends.specs.Reading.{ReadsWhole, TellsAs, TellsTooMuch, limit}
use Rattle.program_ends.specs.declared.ending.Ending.{Ending}
use Rattle.program_ends.specs.declared.ending.Ending.TheVariants as ending
use Rattle.scenario_reader.specs.declared.fault.ScriptFault.{ScriptFault}
use Rattle.lock_runs.specs.Courses.{lock_text, locks_of_lines}

-- why no line behind these ran: there was none, or the disk failed at the last of them; where memory ran out any may
-- be left
abbrev pub IsLastLine : Ending → Option LockLine → List LockLine → Type 0
IsLastLine ending.Done None rest = rest ≡ []
IsLastLine ending.Doubt (Some line) rest = Unit {0}
IsLastLine ending.Unwritten None rest = rest ≡ []
IsLastLine ending.Unwritten (Some line) rest = Unit {0}
IsLastLine ending.OutOfMemory failed rest = Unit {0}
IsLastLine other failed rest = ⊥

-- the text was written: the whole of it, or a front where the sink failed, or nothing where memory ran out
abbrev pub WritesText : Ending → List ℕ → Ports → Ports → Type 0
WritesText ending.Done text v w = Prints true text v w
WritesText ending.Doubt text v w = Prints true text v w
WritesText ending.Unwritten text v w = Prints false text v w
WritesText ending.OutOfMemory text v w = (w.held ≡ v.held) × (w.write_faults ≡ v.write_faults)
WritesText other text v w = ⊥

-- the first of these lines ran on a locket that had this life and did nothing before, up to one at which the disk
-- failed, if there is one: the log has what they came to and nothing else, each item of it lawful at its place; the text
-- of their answers and the summary were written; whatever a stop leaves of the disk from then on is a locket that the
-- log leads to, with what was acknowledged; and each doubt has a fault of the disk for its cause
pub record RunsLines (life : List LockCommand) (lines : List LockLine) (how : Ending) (locks : LockLog) (marks : List ℕ)
    (v w : Ports) : Type 0 where
  pub ran : List LockLine
  pub failed : Option LockLine
  pub rest : List LockLine
  pub split : lines ≡ ran ++ (option_to_list failed ++ rest)
  pub last : IsLastLine how failed rest
  pub locks_are : locks ≡ locks_of_lines life ran failed
  pub writes : WritesText how (lock_text life ran failed) v w
  pub lawful : IsLife (lived life locks) × IsLawful (state_of life) locks
  pub extends : Goes v.told w.told Extends
  pub kept : ForSome w.told (KeptLocks life locks marks v.clock)
  pub doubts : RoseBy (doubts_in locks) v.disk_faults w.disk_faults
  pub later : v.disk_faults ≤ w.disk_faults

-- a lock journal was opened, and lines ran on it
pub record EndsOpened (lines : List LockLine) (how : Ending) (locks : LockLog) (marks : List ℕ)
    (v w : Ports) : Type 0 where
  pub life : List LockCommand
  pub between : Ports
  pub opens : OpensWhat (IsLocket life) v between
  pub runs : RunsLines life lines how locks marks between w

-- no line ran
abbrev pub HasNoLocks : LockLog → List ℕ → Type 0
HasNoLocks locks marks = (locks ≡ []) × (marks ≡ [])

-- no lock journal was opened, and no line ran
abbrev pub EndsUnlocked : Ending → LockLog → List ℕ → Ports → Ports → Type 0
EndsUnlocked how locks marks v w = HasNoLocks locks marks × EndsClosed RefusesLocket how v w

-- no line ran, and the disk wasn't looked at
abbrev pub EndsUnread : Ending → LockLog → List ℕ → Ports → Ports → Type 0
EndsUnread how locks marks v w = HasNoLocks locks marks × EndsUntouched how v w

-- how a script of these lines ends
abbrev pub LinesEnd : List LockLine → Ending → LockLog → List ℕ → Ports → Ports → Type 0
LinesEnd lines ending.Done locks marks v w = EndsOpened lines ending.Done locks marks v w
LinesEnd lines ending.Doubt locks marks v w = EndsOpened lines ending.Doubt locks marks v w
LinesEnd lines ending.Unwritten locks marks v w = EndsOpened lines ending.Unwritten locks marks v w
LinesEnd lines ending.OutOfMemory locks marks v w =
    EndsOpened lines ending.OutOfMemory locks marks v w ⊎ EndsUnlocked ending.OutOfMemory locks marks v w
LinesEnd lines other locks marks v w = EndsUnlocked other locks marks v w

-- the source gave these lines, whose script ended so
pub record ReadsAndRuns (how : Ending) (locks : LockLog) (marks : List ℕ) (left left' : Option (List ℕ)) (v w : Ports)
    : Type 0 where
  pub lines : List LockLine
  pub reads : ReadsWhole lock_lines_of (Ok lines) left left'
  pub ends : LinesEnd lines how locks marks v w

-- how `locks` ends
abbrev pub LocksEnd : Ending → LockLog → List ℕ → Option (List ℕ) → Option (List ℕ) → Ports → Ports → Type 0
LocksEnd (ending.Script fault) locks marks left left' v w =
    EndsUnread (ending.Script fault) locks marks v w × ReadsWhole lock_lines_of (Err fault) left left'
LocksEnd ending.Read locks marks left left' v w =
    EndsUnread ending.Read locks marks v w × LostAtMost left left' limit
LocksEnd ending.TooLong locks marks left left' v w =
    EndsUnread ending.TooLong locks marks v w × Lost left left' (limit + 1)
LocksEnd ending.OutOfMemory locks marks left left' v w =
    ReadsAndRuns ending.OutOfMemory locks marks left left' v w
    ⊎ (EndsUnlocked ending.OutOfMemory locks marks v w × LostAtMost left left' limit)
LocksEnd how locks marks left left' v w = ReadsAndRuns how locks marks left left' v w

-- the source tells lines of lock commands that aren't too long, and the disk a lock journal
pub record MeetsLocks (left : Option (List ℕ)) (told : Option Past) : Type 0 where
  pub lines : List LockLine
  pub life : List LockCommand
  pub image : Image
  pub source : TellsAs lock_lines_of (Ok lines) left
  pub shows : Shows told image
  pub locket : IsLocket life image

-- the disk tells that it holds no lock journal, with this first defect
pub record MeetsNoLocket (told : Option Past) : Type 0 where
  pub why : LoadFault
  pub image : Image
  pub shows : Shows told image
  pub refused : IsNotLocket why image

-- the source and the disk tell what stops lock commands, by the status: a faulty line, more bytes than a source may
-- have, or no lock journal
abbrev pub StopsLocks : ℕ → Option (List ℕ) → Option Past → Type 0
StopsLocks status left told =
    ((status ≡ 2) × ((why : ScriptFault) × TellsAs lock_lines_of (Err why) left))
    ⊎ (((status ≡ 8) × TellsTooMuch left)
    ⊎ ((status ≡ 6) × ((lines : List LockLine) × TellsAs lock_lines_of (Ok lines) left) × MeetsNoLocket told))
