-- A board as its callers see it, and what it rests on.
use Rattle.std.specs.Prelude.{◌≡◌, ℕ, ◌+◌, ◌-◌, ◌^◌, ◌<◌, ◌≤◌, Bool, true, false, ◌&&◌, ◌||◌, ◌==◌, nat_le, nat_lt, is_some, Option, Some, None, List, [], ◌∷◌, length, Ok}
use Rattle.std.specs.List.{slice_get}
use Rattle.std.specs.Option.{ForSome}
use Rattle.disk_trait.specs.Held.{Has}
use Rattle.disk_trait.specs.Past.{Past, now, other}
use Rattle.disk_trait.specs.declared.area.Area.{Area}
use Rattle.bbs_codec.specs.Command.{spelled, FitsCommand, IsReadIn}
use Rattle.bbs_journal.specs.Areas.{Stands}
use Rattle.bbs_journal.specs.Grammar.{heading, GoesWith}
use Rattle.bbs_journal.specs.Header.{newest}
use Rattle.bbs_journal.specs.Beside.{Beside}
use Rattle.bbs_journal.specs.View.{JournalView, frame_waits}
use Rattle.bbs_journal.specs.declared.other_gate.OtherGate.{OtherGate}
use Rattle.bbs_journal.specs.declared.other_gate.OtherGate.TheVariants.{Written}
use Rattle.bbs_journal.specs.declared.waiting.Waiting.{Waiting}
use Rattle.bbs_journal.specs.declared.waiting.Waiting.TheVariants.{Header}
use Rattle.bbs_model.specs.Replay.{replay_log, rows_at, IsLawful}
use Rattle.bbs_model.specs.Told.{told_in}
use Rattle.bbs_model.specs.Valid.{IsValid}
use Rattle.bbs_model.specs.declared.command.Command.{Command}
use Rattle.bbs_model.specs.declared.event.Events.{Events}
use Rattle.bbs_model.specs.declared.item.Item.{Item}
use Rattle.bbs_model.specs.declared.item.Item.TheVariants.{Done, Doubt}
use Rattle.bbs_model.specs.declared.rows.Rows.{Rows}
use Rattle.bbs_board.specs.Doubts.{doubts_in, RoseForEach}
use Rattle.bbs_board.specs.Kept.{Kept}
use Rattle.bbs_board.specs.Opening.{board_of}

-- its disk, the rows that it was opened with, the items since then with the disk's clock at the end of
-- the call of each, the clock and the count of faults at the end of its load, whether a gate has to be
-- mended, the version and the generation of its area and how many frames that has, and how many legal calls it
-- has the memory for
pub record View (D : Type 0) : Type 0 where
  pub disk : D
  pub base : Rows
  pub log : List Item
  pub marks : List ℕ
  pub since : ℕ
  pub faults : ℕ
  pub waits : Bool
  pub version : ℕ
  pub generation : ℕ
  pub frames : ℕ
  pub spare : ℕ

-- it has done nothing since its load, and nothing waits
pub record IsFresh {D : Type 0} (board : View D) : Type 0 where
  pub log : board.log ≡ []
  pub marks : board.marks ≡ []
  pub calm : board.waits ≡ false

-- it was just loaded from this disk: it has done nothing since, its clock and its count of faults are those of its
-- disk, and the load met no fault
pub record IsLoadedFrom {D : Type 0} (moment fault_count : D → ℕ) (disk : D) (board : View D) : Type 0 where
  pub fresh : IsFresh board
  pub since : board.since ≡ moment board.disk
  pub faults : board.faults ≡ fault_count board.disk
  pub stood : fault_count board.disk ≡ fault_count disk

-- the rows of a board: those that its log leaves
abbrev pub rows_of : {D : Type 0} → View D → Rows
rows_of board = replay_log board.base board.log

-- the payload is that of a doubt behind which nothing was done, and areas of the version may have its command, so
-- that it may still show
pub record MayShow (version : ℕ) (base : Rows) (log : List Item) (payload : List ℕ) : Type 0 where
  pub place : ℕ
  pub by : ℕ
  pub command : Command
  pub item : slice_get log place ≡ Some (Doubt by command)
  pub rows_are : rows_at base log place ≡ replay_log base log
  pub last : (earlier caller : ℕ) (c : Command) → slice_get log earlier ≡ Some (Done caller c) → earlier < place
  pub payload_is : payload ≡ spelled command
  pub fits : FitsCommand command
  pub read : IsReadIn version command

-- the next head leads to these rows, in the other area and with the newest version and the next generation
pub record LeadsOn (area : Area) (generation : ℕ) (next : List ℕ) (rows : Rows) : Type 0 where
  pub goes_with : GoesWith newest (generation + 1) next
  pub rows_are : board_of newest (other area) next [] None ≡ Ok rows

-- whatever a stop leaves, the area holds a head and so many payloads that leave the board's rows, and perhaps a
-- doubt; the other area gives way to it, or may be open with a head that leaves these rows too; and the board is kept
pub record Holds (base : Rows) (log : List Item) (marks : List ℕ) (since : ℕ) (area : Area)
    (version generation end frames : ℕ) (waiting : Waiting) (known : OtherGate) (p : Past) : Type 0 where
  pub gate : ℕ
  pub is_open : 0 < gate
  pub head : List ℕ
  pub payloads : List (List ℕ)
  pub count : frames ≡ length payloads
  pub doubt : Option (List ℕ)
  pub goes_with : GoesWith version generation head
  pub waits_is : frame_waits waiting ≡ is_some doubt
  pub may_show : (payload : List ℕ) → doubt ≡ Some payload → MayShow version base log payload
  pub stands : Stands (gate ∷ heading version generation head) payloads doubt end (now p area)
  pub next : List ℕ
  pub beside : Has (Beside next waiting known generation) (now p (other area))
  pub leads_on : (size : ℕ) → waiting ≡ Header → known ≡ Written size → LeadsOn area generation next (replay_log base log)
  pub rows_are : board_of version area head payloads None ≡ Ok (replay_log base log)
  pub kept : Kept base log marks since p

-- where the disk of a journal tells its past, the board stands there
abbrev pub StandsOn : {D : Type 0} → (D → Option Past) → Rows → List Item → List ℕ → ℕ → JournalView D → Type 0
StandsOn told base log marks since j =
    ForSome (told j.disk) (Holds base log marks since j.area j.version j.generation j.end j.frames j.waiting j.gate)

-- a checkpoint is due before the next frame: there are 4,096 or more, or the area is of version 1, and there is a
-- next generation
abbrev pub wants_checkpoint : {D : Type 0} → JournalView D → Bool
wants_checkpoint j = (nat_le 4096 j.frames || j.version == 1) && nat_lt j.generation (2 ^ 64 - 1)

-- so stands each board: it was opened with valid rows, its log is lawful and leads to its rows, which are
-- valid, it is kept what each item told, each of its doubts has a fault for its cause, and its journal has
-- no defect and no more frames than the board has made transitions, the last of which is in doubt only where
-- no checkpoint is due
pub record IsSound {D : Type 0} (told : D → Option Past) (fault_count : D → ℕ) (rows base : Rows) (log : List Item)
    (marks : List ℕ) (events : List (Option Events)) (since faults : ℕ) (journal : JournalView D) : Type 0 where
  pub opened : IsValid base
  pub valid : IsValid rows
  pub lawful : IsLawful base log
  pub rows_are : rows ≡ replay_log base log
  pub events_are : events ≡ told_in base log
  pub whole : journal.broken ≡ false
  pub counted : journal.frames ≤ rows.next
  pub crowded : frame_waits journal.waiting ≡ true → wants_checkpoint journal ≡ false
  pub doubted : RoseForEach (doubts_in log) faults (fault_count journal.disk)
  pub holds : StandsOn told base log marks since journal
