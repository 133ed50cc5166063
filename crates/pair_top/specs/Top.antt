-- How the program of a pair ends, by what it was asked, what the source gave, and what the sink and the disks did.
use Rattle.std.specs.Prelude.{◌≡◌, ◌≢◌, ◌⊎◌, ℕ, ◌+◌, Bool, List, [], Option, Some, None, Ok, Err}
use Rattle.byte_ports.specs.Cause.{Rose}
use Rattle.byte_ports.specs.Content.{Lost, LostAtMost}
use Rattle.disk_trait.specs.Past.{Past, Image}
use Rattle.disk_trait.specs.Shows.{KeepsContent, Shows}
use Rattle.disk_trait.specs.Steps.{Goes}
use Rattle.bbs_board.specs.Opening.{IsBoard, Refuses}
use Rattle.bbs_journal.specs.declared.load_fault.LoadFault.{LoadFault}
use Rattle.bbs_journal.specs.declared.load_fault.LoadFault.TheVariants as load
use Rattle.bbs_model.specs.declared.rows.Rows.{Rows}
use Rattle.pair_lines.specs.Scripts.{IsPairScript}
use Rattle.pair_lines.specs.Words.{AsksFor}
use Rattle.pair_lines.specs.declared.answered.PairAnswered.{PairAnswered}
use Rattle.program_ends.specs.Opening.{EndsUnopened, Opens}
use Rattle.program_ends.specs.Ports.{IsTold, Ports, PrintsTo, ports_of}
use Rattle.program_ends.specs.Reading.{ReadsWhole, TellsAs, limit}
use Rattle.program_ends.specs.declared.ending.Ending.{Ending}
use Rattle.program_ends.specs.declared.ending.Ending.TheVariants as ending
use Rattle.scenario_lines.specs.declared.script.Script.{Script}
use Rattle.scenario_reader.specs.Accepted.{script_of}
use Rattle.pair_top.specs.Endings.{line_of}
use Rattle.pair_top.specs.Reading.{ReadsOther}
use Rattle.pair_top.specs.Runs.{RunsPair}
use Rattle.pair_top.specs.declared.ending.PairEnding.{PairEnding}
use Rattle.pair_top.specs.declared.ending.PairEnding.TheVariants.{Run, OtherLine, NoStandby, DamagedStandby, Unequal}

-- what is told of the sink and of both disks at one moment
pub record PairPorts : Type 0 where
  pub held : Option (List ℕ)
  pub write_faults : ℕ
  pub primary : Option Past
  pub primary_faults : ℕ
  pub primary_clock : ℕ
  pub standby : Option Past
  pub standby_faults : ℕ
  pub standby_clock : ℕ

-- what is told of a sink and of two disks
module _ {D E : Type 0} (told : D → Option Past) (faults moment : D → ℕ) (told' : E → Option Past) (faults' moment' : E → ℕ) where
  abbrev pub ports_at : Option (List ℕ) → ℕ → D → E → PairPorts
  ports_at held write_faults primary standby = record {
    held = held;
    write_faults = write_faults;
    primary = told primary;
    primary_faults = faults primary;
    primary_clock = moment primary;
    standby = told' standby;
    standby_faults = faults' standby;
    standby_clock = moment' standby;
  }

-- the sink and the primary's disk
abbrev pub primary_ports : PairPorts → Ports
primary_ports v = ports_of v.held v.write_faults v.primary v.primary_faults v.primary_clock

-- the sink and the standby's disk
abbrev pub standby_ports : PairPorts → Ports
standby_ports v = ports_of v.held v.write_faults v.standby v.standby_faults v.standby_clock

-- a line was printed, whole or up to a fault of the sink
abbrev pub PrintsLine : List ℕ → PairPorts → PairPorts → Type 0
PrintsLine line v w = (whole : Bool) × PrintsTo whole line v.held w.held v.write_faults w.write_faults

-- the primary's disk is as it was
pub record PrimaryRests (v w : PairPorts) : Type 0 where
  pub told : w.primary ≡ v.primary
  pub faults : w.primary_faults ≡ v.primary_faults

-- the standby's disk is as it was
pub record StandbyRests (v w : PairPorts) : Type 0 where
  pub told : w.standby ≡ v.standby
  pub faults : w.standby_faults ≡ v.standby_faults

-- the program ended with the line of its ending, before a disk was looked at
pub record EndsUntouched (how : PairEnding) (v w : PairPorts) : Type 0 where
  pub primary : PrimaryRests v w
  pub standby : StandbyRests v w
  pub prints : PrintsLine (line_of how) v w

-- the primary wasn't opened, for this cause
pub record EndsWithoutPrimary (how : Ending) (v w : PairPorts) : Type 0 where
  pub primary : EndsUnopened how (primary_ports v) (primary_ports w)
  pub standby : StandbyRests v w

-- the primary was opened with these rows; nothing was printed, and the standby's disk wasn't looked at
pub record OpensPrimary (rows : Rows) (v m : PairPorts) : Type 0 where
  pub primary : Opens rows (primary_ports v) (primary_ports m)
  pub standby : StandbyRests v m

-- the standby was opened beside it with these rows
pub record OpensStandby (rows : Rows) (m n : PairPorts) : Type 0 where
  pub standby : Opens rows (standby_ports m) (standby_ports n)
  pub primary : PrimaryRests m n

-- the content of the standby's disk has this first defect, and the disk had no fault
pub record RefusesStandby (why : LoadFault) (m w : PairPorts) : Type 0 where
  pub refused : (image : Image) → Shows m.standby image → IsTold w.standby → Refuses why image
  pub no_fault : w.standby_faults ≡ m.standby_faults

-- why the standby wasn't opened, by how the program ends: its disk failed, or its content is the cause
abbrev pub HasStandbyCause : PairEnding → PairPorts → PairPorts → Type 0
HasStandbyCause (Run ending.Unopened) m w = Rose m.standby_faults w.standby_faults
HasStandbyCause (NoStandby area) m w = RefusesStandby (load.NotABoard area) m w
HasStandbyCause (DamagedStandby area at) m w = RefusesStandby (load.Damaged area at) m w
HasStandbyCause other m w = ⊥

-- the standby wasn't opened
pub record EndsWithoutStandby (how : PairEnding) (v w : PairPorts) : Type 0 where
  pub rows : Rows
  pub mid : PairPorts
  pub opens : OpensPrimary rows v mid
  pub primary : PrimaryRests mid w
  pub content : Goes mid.standby w.standby KeepsContent
  pub cause : HasStandbyCause how mid w
  pub prints : PrintsLine (line_of how) mid w

-- both boards were opened, and nothing was done but to look
pub record OpensBoth (primary standby : Rows) (v n : PairPorts) : Type 0 where
  pub mid : PairPorts
  pub first : OpensPrimary primary v mid
  pub second : OpensStandby standby mid n

-- the rows of both boards differ
pub record EndsUnequal (v w : PairPorts) : Type 0 where
  pub primary : Rows
  pub standby : Rows
  pub apart : primary ≢ standby
  pub mid : PairPorts
  pub opens : OpensBoth primary standby v mid
  pub rests : PrimaryRests mid w × StandbyRests mid w
  pub prints : PrintsLine (line_of Unequal) mid w

-- both boards have these rows, and the script ran on the pair of them
pub record EndsRun (script : Script) (k : ℕ) (how : Ending) (answers : List PairAnswered) (v w : PairPorts) : Type 0 where
  pub base : Rows
  pub mid : PairPorts
  pub opens : OpensBoth base base v mid
  pub runs : RunsPair script k base how answers mid.held w.held mid.write_faults w.write_faults
      v.primary w.primary v.standby w.standby mid.primary_faults w.primary_faults mid.standby_faults w.standby_faults

-- no call was made, and no byte of either disk was changed
pub record IsIdle (answers : List PairAnswered) (v w : PairPorts) : Type 0 where
  pub answers_are : answers ≡ []
  pub primary : Goes v.primary w.primary KeepsContent
  pub standby : Goes v.standby w.standby KeepsContent

-- how the program ends that made no pair of two boards; of want of memory it is only said that nothing was printed
abbrev pub EndsUnpaired : PairEnding → PairPorts → PairPorts → Type 0
EndsUnpaired (Run ending.OutOfMemory) v w = PrintsLine (line_of (Run ending.OutOfMemory)) v w
EndsUnpaired (Run how) v w = EndsWithoutPrimary how v w ⊎ EndsWithoutStandby (Run how) v w
EndsUnpaired Unequal v w = EndsUnequal v w
EndsUnpaired how v w = EndsWithoutStandby how v w

-- how a script for a pair ends
abbrev pub ScriptEnds : PairEnding → Script → ℕ → List PairAnswered → PairPorts → PairPorts → Type 0
ScriptEnds (Run ending.Done) script k answers v w = EndsRun script k ending.Done answers v w
ScriptEnds (Run ending.Doubt) script k answers v w = EndsRun script k ending.Doubt answers v w
ScriptEnds (Run ending.Unwritten) script k answers v w = EndsRun script k ending.Unwritten answers v w
ScriptEnds (Run ending.OutOfMemory) script k answers v w =
    EndsRun script k ending.OutOfMemory answers v w
    ⊎ (IsIdle answers v w × EndsUnpaired (Run ending.OutOfMemory) v w)
ScriptEnds how script k answers v w = IsIdle answers v w × EndsUnpaired how v w

-- the source gave a script for a pair, which ended so
pub record ReadsAndRuns (how : PairEnding) (k : ℕ) (answers : List PairAnswered) (left left' : Option (List ℕ))
    (v w : PairPorts) : Type 0 where
  pub script : Script
  pub reads : ReadsWhole script_of (Ok script) left left'
  pub pair : IsPairScript script
  pub ends : ScriptEnds how script k answers v w

-- how the program ends that was to let the standby take over before phase k
abbrev pub NumberEnds : PairEnding → ℕ → List PairAnswered → Option (List ℕ) → Option (List ℕ) → PairPorts → PairPorts → Type 0
NumberEnds (Run (ending.Script fault)) k answers left left' v w =
    IsIdle answers v w × EndsUntouched (Run (ending.Script fault)) v w × ReadsWhole script_of (Err fault) left left'
NumberEnds (Run ending.Read) k answers left left' v w =
    IsIdle answers v w × EndsUntouched (Run ending.Read) v w × LostAtMost left left' limit
NumberEnds (Run ending.TooLong) k answers left left' v w =
    IsIdle answers v w × EndsUntouched (Run ending.TooLong) v w × Lost left left' (limit + 1)
NumberEnds (OtherLine line) k answers left left' v w =
    IsIdle answers v w × EndsUntouched (OtherLine line) v w × ReadsOther line left left'
NumberEnds (Run ending.OutOfMemory) k answers left left' v w =
    ReadsAndRuns (Run ending.OutOfMemory) k answers left left' v w
    ⊎ (IsIdle answers v w × EndsUntouched (Run ending.OutOfMemory) v w)
NumberEnds how k answers left left' v w = ReadsAndRuns how k answers left left' v w

-- how the program ends for these words: those that aren't in the grammar touch nothing, and no others end so
abbrev pub PairEnds : PairEnding → List (List ℕ) → List PairAnswered → Option (List ℕ) → Option (List ℕ)
    → PairPorts → PairPorts → Type 0
PairEnds (Run ending.Usage) words answers left left' v w =
    AsksFor words None × IsIdle answers v w × EndsUntouched (Run ending.Usage) v w × (left' ≡ left)
PairEnds how words answers left left' v w =
    (k : ℕ) × AsksFor words (Some k) × NumberEnds how k answers left left' v w

-- the source tells a script for a pair that isn't too long, and the disks two boards with the same rows
pub record MeetsPair (words : List (List ℕ)) (left : Option (List ℕ)) (primary standby : Option Past) : Type 0 where
  pub k : ℕ
  pub asks : AsksFor words (Some k)
  pub script : Script
  pub source : TellsAs script_of (Ok script) left
  pub pair : IsPairScript script
  pub rows : Rows
  pub on_primary : Image
  pub on_standby : Image
  pub shows_primary : Shows primary on_primary
  pub shows_standby : Shows standby on_standby
  pub primary_board : IsBoard rows on_primary
  pub standby_board : IsBoard rows on_standby
