-- What a reader of a disk has found.
use Rattle.std.specs.Prelude.{◌≡◌, ℕ, ◌+◌, ◌*◌, ◌^◌, ◌<◌, ◌≤◌, Option, is_some, length, take, Ok}
use Rattle.std.specs.Option.{ForSome}
use Rattle.disk_trait.specs.Past.{Past, Image, other}
use Rattle.disk_trait.specs.declared.area.Area.TheVariants.{A, B}
use Rattle.bbs_journal.specs.Header.{IsVersion, front, header_of, gate_of}
use Rattle.bbs_journal.specs.Opening.{active_of, size_of, IsOpening}
use Rattle.bbs_journal.specs.Reading.{payloads_of, bytes_of}
use Rattle.bbs_journal.specs.View.{IsKept}
use Rattle.bbs_journal.specs.declared.active.Active.{Active}
use Rattle.bbs_journal.specs.declared.find.Chosen.{Chosen}
use Rattle.bbs_journal.specs.declared.find.Found.{Found}
use Rattle.bbs_journal.specs.declared.frame_list.Frames.{Frames}
use Rattle.bbs_journal.specs.declared.loading.Loaded.{Loaded}
use Rattle.bbs_journal.specs.declared.waiting.Waiting.TheVariants.{Nothing}

-- the area to be read of an image, its front, and what the front of the other area tells of its gate
pub record IsChosen (c : Image) (chosen : Chosen) : Type 0 where
  pub active : active_of (header_of (front (c A))) (header_of (front (c B))) ≡ Ok chosen.active
  pub front_is : take chosen.front.count chosen.front.room ≡ front (c chosen.active.area)
  pub gate : chosen.gate ≡ gate_of (header_of (front (c (other chosen.active.area))))

-- the active area has this length, and its head that one
pub record IsSized (c : Image) (active : Active) (len size : ℕ) : Type 0 where
  pub len_is : len ≡ length (c active.area)
  pub size_is : size_of active (front (c active.area)) (length (c active.area)) ≡ Ok size

-- frames from a place on fit an area of this length: the last ends behind the bytes of all of them, within the
-- area, and none takes more than 515 bytes
pub record FitsArea (start len : ℕ) (frames : Frames) : Type 0 where
  pub end : frames.end ≡ start + bytes_of (payloads_of frames.payloads.items)
  pub within : frames.end ≤ len
  pub few : frames.end ≤ start + 515 * length frames.payloads.items

-- what an image is opened as, and what the front of the other area tells of its gate
pub record IsFoundIn (c : Image) (found : Found) : Type 0 where
  pub opening : IsOpening c found.place.area found.place.version found.place.generation found.head.items
      (payloads_of found.payloads.items) found.broken found.place.end
  pub gate : found.place.gate ≡ gate_of (header_of (front (c (other found.place.area))))

-- what is so whatever the disk has shown
pub record IsCounted (found : Found) : Type 0 where
  pub end : found.place.end ≡ 23 + length found.head.items + bytes_of (payloads_of found.payloads.items)
  pub small : found.place.end < 2 ^ 33 + 515 * found.place.frames
  pub fits : found.place.end < 2 ^ 64
  pub frames : found.place.frames ≡ length found.payloads.items
  pub broken : found.place.broken ≡ is_some found.broken
  pub version_is : IsVersion found.place.version

-- what was just loaded from this disk: its journal counts the frames that were read and ends behind them, nothing is
-- in doubt, it stands on what the disk tells, and the load met no fault
pub record IsJustLoaded {D : Type 0} (told : D → Option Past) (fault_count : D → ℕ) (disk : D) (loaded : Loaded D) : Type 0 where
  pub end : loaded.journal.end ≡ 23 + length loaded.head.items + bytes_of (payloads_of loaded.frames.items)
  pub below : loaded.journal.end < 2 ^ 64
  pub count : loaded.journal.frames ≡ length loaded.frames.items
  pub mended : loaded.journal.waiting ≡ Nothing
  pub broken : loaded.journal.broken ≡ is_some loaded.broken
  pub version_is : IsVersion loaded.journal.version
  pub version : loaded.version ≡ loaded.journal.version
  pub kept : ForSome (told loaded.journal.disk) (IsKept loaded.journal.area loaded.journal.version
      loaded.journal.generation loaded.journal.end loaded.journal.frames Nothing loaded.journal.broken loaded.journal.gate)
  pub stood : fault_count loaded.journal.disk ≡ fault_count disk
