-- How the opening of the board ends, and what ends before it or without it.
use Rattle.std.specs.Prelude.{◌≡◌, ℕ, ◌==◌, ◌||◌, Bool, true, false, Some}
use Rattle.byte_ports.specs.Cause.{HasCause}
use Rattle.disk_trait.specs.Past.{Past, Image}
use Rattle.disk_trait.specs.Shows.{Shows, KeepsContent, Secures}
use Rattle.disk_trait.specs.Steps.{Goes}
use Rattle.bbs_journal.specs.declared.load_fault.LoadFault.{LoadFault}
use Rattle.bbs_journal.specs.declared.load_fault.LoadFault.TheVariants as fault
use Rattle.bbs_model.specs.declared.rows.Rows.{Rows}
use Rattle.bbs_board.specs.Opening.{IsBoard, Refuses}
use Rattle.program_ends.specs.Ending.{line_of}
use Rattle.program_ends.specs.Ports.{Ports, IsTold, Prints}
use Rattle.program_ends.specs.declared.ending.Ending.{Ending}
use Rattle.program_ends.specs.declared.ending.Ending.TheVariants as ending

-- with this status the program ends before it looks at the disk
abbrev pub is_before_board : ℕ → Bool
is_before_board status = (status == 1) || ((status == 2) || ((status == 3) || (status == 8)))

-- the program ended with this line, and the disk is untouched
pub record EndsUntouched (how : Ending) (v w : Ports) : Type 0 where
  pub told : w.told ≡ v.told
  pub faults : w.disk_faults ≡ v.disk_faults
  pub whole : Bool
  pub prints : Prints whole (line_of how) v w

-- the program ended with this line; the disk failed or not, and a read gives what it gave
pub record EndsEarly (failed : Bool) (how : Ending) (v w : Ports) : Type 0 where
  pub rests : Goes v.told w.told KeepsContent
  pub cause : HasCause failed v.disk_faults w.disk_faults
  pub whole : Bool
  pub prints : Prints whole (line_of how) v w

-- nothing was loaded, for what the content of the disk is, of a disk that tells its past to the end
pub record EndsRefused (IsSo : Image → Type 0) (how : Ending) (v w : Ports) : Type 0 where
  pub early : EndsEarly false how v w
  pub refused : (image : Image) → Shows v.told image → IsTold w.told → IsSo image

-- how the program ends that opened nothing, where each fault of a load is explained so by the content
abbrev pub EndsClosed : (LoadFault → Image → Type 0) → Ending → Ports → Ports → Type 0
EndsClosed Explains ending.Unopened v w = EndsEarly true ending.Unopened v w
EndsClosed Explains (ending.NotABoard area) v w =
    EndsRefused (Explains (fault.NotABoard area)) (ending.NotABoard area) v w
EndsClosed Explains (ending.Damaged area at) v w =
    EndsRefused (Explains (fault.Damaged area at)) (ending.Damaged area at) v w
EndsClosed Explains ending.OutOfMemory v w = EndsEarly false ending.OutOfMemory v w
EndsClosed Explains other v w = ⊥

-- how the program ends that opened no board
abbrev pub EndsUnopened : Ending → Ports → Ports → Type 0
EndsUnopened how v w = EndsClosed Refuses how v w

-- how it ends whose load came to this fault
abbrev pub ending_for : LoadFault → Ending
ending_for fault.Disk = ending.Unopened
ending_for (fault.NotABoard area) = ending.NotABoard area
ending_for (fault.Damaged area at) = ending.Damaged area at
ending_for fault.OutOfMemory = ending.OutOfMemory

-- what the disk shows was loaded, and is so; the disk shows what it showed, no stop leaves anything else, no fault was
-- counted, and nothing was printed
pub record OpensWhat (IsSo : Image → Type 0) (v w : Ports) : Type 0 where
  pub found : (image : Image) → Shows w.told image → IsSo image
  pub still : (image : Image) → Shows v.told image → IsTold w.told → Shows w.told image
  pub timed : (q : Past) → w.told ≡ Some q → q.clock ≡ w.clock
  pub secures : Goes v.told w.told Secures
  pub same_sink : (w.held ≡ v.held) × (w.write_faults ≡ v.write_faults)
  pub no_fault : w.disk_faults ≡ v.disk_faults

-- a board with these rows was loaded
abbrev pub Opens : Rows → Ports → Ports → Type 0
Opens rows v w = OpensWhat (IsBoard rows) v w
