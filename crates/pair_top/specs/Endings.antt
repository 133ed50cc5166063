-- The ways in which the program of a pair ends, each with its status and its line.
use Rattle.std.specs.Prelude.{◌≡◌, ◌⊎◌, ℕ, List}
use Rattle.bbs_journal.specs.declared.load_fault.LoadFault.{LoadFault}
use Rattle.bbs_journal.specs.declared.load_fault.LoadFault.TheVariants as load
use Rattle.pair_lines.specs.Faults.{other_line_text, standby_damaged_text, standby_no_board_line, unequal_line}
use Rattle.program_ends.specs.Ending as one_board
use Rattle.program_ends.specs.declared.ending.Ending.TheVariants as ending
use Rattle.standby_board.specs.declared.answers.StartRefusal.{StartRefusal}
use Rattle.standby_board.specs.declared.answers.StartRefusal.TheVariants as refusal
use Rattle.pair_top.specs.declared.ending.PairEnding.{PairEnding}
use Rattle.pair_top.specs.declared.ending.PairEnding.TheVariants.{Run, OtherLine, NoStandby, DamagedStandby, Unequal}

-- the program's status
abbrev pub status_of : PairEnding → ℕ
status_of (Run how) = one_board.status_of how
status_of (OtherLine line) = 2
status_of (NoStandby area) = 6
status_of (DamagedStandby area at) = 6
status_of Unequal = 10

-- the line of an ending before the first phase
abbrev pub line_of : PairEnding → List ℕ
line_of (Run how) = one_board.line_of how
line_of (OtherLine line) = other_line_text line
line_of (NoStandby area) = standby_no_board_line area
line_of (DamagedStandby area at) = standby_damaged_text area at
line_of Unequal = unequal_line

-- how it ends that ends so before the first phase: a line that tells a place may want memory
abbrev pub EndsAs : PairEnding → PairEnding → Type 0
EndsAs wanted how = (how ≡ wanted) ⊎ (how ≡ Run ending.OutOfMemory)

-- words that aren't in the grammar and a source that fails are told in a constant line
abbrev pub StaysAs : PairEnding → PairEnding → Type 0
StaysAs (Run ending.Usage) how = how ≡ Run ending.Usage
StaysAs (Run ending.Read) how = how ≡ Run ending.Read
StaysAs wanted how = Unit {0}

-- how it ends that could not load the standby
abbrev pub standby_ending : LoadFault → PairEnding
standby_ending load.Disk = Run ending.Unopened
standby_ending (load.NotABoard area) = NoStandby area
standby_ending (load.Damaged area at) = DamagedStandby area at
standby_ending load.OutOfMemory = Run ending.OutOfMemory

-- how it ends whose boards are no pair
abbrev pub start_ending : StartRefusal → PairEnding
start_ending (refusal.Unequal primary standby) = Unequal
start_ending refusal.OutOfMemory = Run ending.OutOfMemory
