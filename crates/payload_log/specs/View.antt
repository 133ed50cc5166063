-- A log of payloads as its callers see it, and what it rests on.
use Rattle.std.specs.Prelude.{◌≡◌, ℕ, ◌+◌, ◌<◌, Bool, false, is_some, Option, Some, List, [], ◌∷◌, ◌++◌, length, take}
use Rattle.std.specs.List.{slice_get}
use Rattle.std.specs.Option.{ForSome}
use Rattle.disk_trait.specs.Held.{Has}
use Rattle.disk_trait.specs.Past.{Past, Image, now, other, IsSettled}
use Rattle.disk_trait.specs.Shows.{Shows}
use Rattle.bbs_journal.specs.Areas.{Stands}
use Rattle.bbs_journal.specs.Grammar.{heading, GoesWith}
use Rattle.bbs_journal.specs.Other.{Yields}
use Rattle.bbs_journal.specs.Reading.{bytes_of}
use Rattle.bbs_journal.specs.View.{JournalView, IsCalm, is_waiting}
use Rattle.bbs_journal.specs.declared.loading.Loaded.{Loaded}
use Rattle.bbs_journal.specs.declared.other_gate.OtherGate.{OtherGate}
use Rattle.payload_log.specs.Doubts.{RoseBy}
use Rattle.payload_log.specs.Entries.{stored_in, doubts_in}
use Rattle.payload_log.specs.Kept.{KeptList}
use Rattle.payload_log.specs.Opened.{Opened, OpensBehind, opened_by}
use Rattle.payload_log.specs.Puts.{OnlyFrameWaits}
use Rattle.payload_log.specs.declared.entry.Entry.{Entry}
use Rattle.payload_log.specs.declared.entry.Entry.TheVariants.{Done, Doubt}

-- its disk, what was opened when it began, the entries since then with the disk's clock at the end of the call of
-- each, the clock and the count of faults when it began, whether a gate has to be mended, and for how many more
-- entries it has the memory
pub record LogView (D X : Type 0) : Type 0 where
  pub disk : D
  pub start : Opened
  pub log : List (Entry X)
  pub marks : List ℕ
  pub since : ℕ
  pub faults : ℕ
  pub waits : Bool
  pub room : ℕ

-- what stands on the disk as far as it is acknowledged: the payloads that were opened, and those that are done
abbrev pub payloads_in : {D X : Type 0} → (X → List ℕ) → LogView D X → List (List ℕ)
payloads_in spelling v = v.start.payloads ++ stored_in spelling v.log

-- what a log can begin with: a journal that was loaded without a defect, in which nothing waits, whose frames are
-- counted and end where the next one goes, over a disk that shows them and has settled
pub record CanBegin {D : Type 0} (told : D → Option Past) (loaded : Loaded D) : Type 0 where
  pub calm : IsCalm loaded.journal
  pub count : loaded.journal.frames ≡ length loaded.frames.items
  pub end : loaded.journal.end ≡ 23 + length (opened_by loaded).head + bytes_of (opened_by loaded).payloads
  pub shows : (image : Image) → Shows (told loaded.journal.disk) image → OpensBehind (opened_by loaded) [] image
  pub settled : ForSome (told loaded.journal.disk) IsSettled

-- a log that began with what was loaded, when the disk had failed so often: it has no entry, and nothing waits
pub record IsBegun {D X : Type 0} (moment : D → ℕ) (loaded : Loaded D) (faults : ℕ) (v : LogView D X) : Type 0 where
  pub disk : v.disk ≡ loaded.journal.disk
  pub start : v.start ≡ opened_by loaded
  pub log : v.log ≡ []
  pub marks : v.marks ≡ []
  pub since : v.since ≡ moment loaded.journal.disk
  pub faults_are : v.faults ≡ faults
  pub calm : v.waits ≡ false

-- the bytes are those of a doubt behind which nothing was done, so that it may still show
pub record MayShow {X : Type 0} (spelling : X → List ℕ) (log : List (Entry X)) (bytes : List ℕ) : Type 0 where
  pub place : ℕ
  pub payload : X
  pub doubt : slice_get log place ≡ Some (Doubt payload)
  pub last : (earlier : ℕ) (x : X) → slice_get log earlier ≡ Some (Done x) → earlier < place
  pub stored : stored_in spelling (take place log) ≡ stored_in spelling log
  pub bytes_are : bytes ≡ spelling payload

-- whatever a stop leaves, the area holds what was opened and what is done behind it, and perhaps a doubt; the other
-- area gives way to it; and the list is kept
pub record Holds {X : Type 0} (spelling : X → List ℕ) (start : Opened) (log : List (Entry X)) (marks : List ℕ)
    (since end : ℕ) (waits : Bool) (p : Past) : Type 0 where
  pub gate : ℕ
  pub is_open : 0 < gate
  pub goes_with : GoesWith start.version start.generation start.head
  pub in_doubt : Option (List ℕ)
  pub waits_is : waits ≡ is_some in_doubt
  pub may_show : (bytes : List ℕ) → in_doubt ≡ Some bytes → MayShow spelling log bytes
  pub stands : Stands (gate ∷ heading start.version start.generation start.head)
      (start.payloads ++ stored_in spelling log) in_doubt end (now p start.area)
  pub beside : OtherGate
  pub yields : Has (Yields beside start.generation) (now p (other start.area))
  pub kept : KeptList spelling start log marks since p

-- so stands each log: its journal has no defect, counts the payloads, and has no other gate to mend than its last;
-- each doubt has a fault for its cause; and where the disk tells its past, the log stands there
pub record IsSound {D X : Type 0} (spelling : X → List ℕ) (told : D → Option Past) (fault_count : D → ℕ)
    (start : Opened) (log : List (Entry X)) (marks : List ℕ) (since faults : ℕ) (journal : JournalView D) : Type 0 where
  pub whole : journal.broken ≡ false
  pub own : OnlyFrameWaits journal.waiting
  pub counted : journal.frames ≡ length (start.payloads ++ stored_in spelling log)
  pub doubted : RoseBy (doubts_in log) faults (fault_count journal.disk)
  pub holds : ForSome (told journal.disk)
      (Holds spelling start log marks since journal.end (is_waiting journal.waiting))
