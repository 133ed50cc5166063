-- What a checkpoint does: the rows stand as a head in the other area, in place of the frames that led to them, and in
-- the newest version.
use Rattle.std.specs.Prelude.{◌≡◌, ◌⊎◌, ℕ, ◌+◌, ◌-◌, ◌^◌, ◌<◌, ◌≤◌, ◌&&◌, ◌||◌, ◌==◌, nat_lt, Bool, true, false, List, Option, Result, Ok, Err, if◌then◌else◌}
use Rattle.disk_trait.specs.Past.{Past, Image, Images, ImagesSince}
use Rattle.disk_trait.specs.Runs.{Extends}
use Rattle.disk_trait.specs.Steps.{Goes}
use Rattle.head_codec.specs.Head.{head_spelled, FitsHead}
use Rattle.bbs_journal.specs.Calls.{mend_calls}
use Rattle.bbs_journal.specs.Header.{newest}
use Rattle.bbs_journal.specs.View.{JournalView, is_waiting, frame_waits}
use Rattle.bbs_model.specs.Replay.{replay_log, IsLawful}
use Rattle.bbs_model.specs.Valid.{IsValid}
use Rattle.bbs_model.specs.declared.item.Item.{Item}
use Rattle.bbs_model.specs.declared.reply.CallFault.{CallFault}
use Rattle.bbs_model.specs.declared.reply.CallFault.TheVariants as fault
use Rattle.bbs_model.specs.declared.rows.Rows.{Rows}
use Rattle.bbs_board.specs.Puts.{StandsWith}
use Rattle.bbs_board.specs.View.{View, StandsOn, wants_checkpoint}
use Rattle.bbs_board.specs.Stops.{OpensWith}
use Rattle.bbs_board.specs.Storing.{IsHeadOf}
use Rattle.bbs_board.specs.Written.{Reading, ReadsAs, OpensTo, LeadsTo, compacted}

-- the disk read what leads to these rows: all the while a stop leaves that, or what is read after a checkpoint, and
-- once it is made only the second
pub record Compacts (ok : Bool) (rows : Rows) (p q : Past) : Type 0 where
  pub before : Reading
  pub reads : ReadsAs before p
  pub leads : LeadsTo before rows
  pub each : (image : Image) → ImagesSince q p.clock image → OpensTo before image ⊎ OpensWith rows (compacted rows before) image
  pub done : ok ≡ true → (image : Image) → Images q image → OpensWith rows (compacted rows before) image

-- time goes on, and where nothing waited to be mended it is known what a stop leaves to the byte
pub record Checkpoints (ok waits : Bool) (rows : Rows) (p q : Past) : Type 0 where
  pub extends : Extends p q
  pub compacts : waits ≡ false → Compacts ok rows p q

-- a checkpoint is made, or its disk failed at this place of the log, or it wanted memory
abbrev pub EndsCheckpoint : ℕ → Result (Unit {0}) CallFault → Type 0
EndsCheckpoint place end = (end ≡ Ok tt) ⊎ ((end ≡ Err (fault.Disk place)) ⊎ (end ≡ Err fault.OutOfMemory))

-- it makes away with something, frames or an old version, and there is a next generation
abbrev pub has_to_compact : {D : Type 0} → JournalView D → Bool
has_to_compact j = (nat_lt 0 j.frames || j.version == 1) && nat_lt j.generation (2 ^ 64 - 1)

-- the disk failed in it
abbrev pub is_checkpoint_fault : Result (Unit {0}) CallFault → Bool
is_checkpoint_fault (Ok done) = false
is_checkpoint_fault (Err (fault.Disk place)) = true
is_checkpoint_fault (Err fault.OutOfMemory) = false

-- whatever board stood there stands there still, where the head that it goes on with is that of its rows
abbrev pub MovesOn : {D : Type 0} → (D → Option Past) → Bool → List ℕ → JournalView D → JournalView D → Type 0
MovesOn told ok head old new =
    (base : Rows) (log : List Item) (marks : List ℕ) (since : ℕ) → IsLawful base log → StandsOn told base log marks since old
    → (0 < old.frames) ⊎ (old.version ≡ 1) → FitsHead newest (replay_log base log) → head ≡ head_spelled newest (replay_log base log)
    → StandsWith told base log marks since old new
    × (is_waiting old.waiting ≡ false → Goes (told old.disk) (told new.disk) (Compacts ok (replay_log base log)))

-- what a journal knows by itself after that: it has no defect; where it succeeded it has the newest version, the next
-- generation and no frames, and nothing waits; where it failed it has its version and its generation and as many
-- frames, and the gate behind them waits only where it did before
pub record MovedOn {D : Type 0} (ok : Bool) (old new : JournalView D) : Type 0 where
  pub whole : new.broken ≡ false
  pub version : new.version ≡ (if ok then newest else old.version)
  pub generation : new.generation ≡ (if ok then old.generation + 1 else old.generation)
  pub frames : new.frames ≡ (if ok then 0 else old.frames)
  pub waits : ok ≡ true → is_waiting new.waiting ≡ false
  pub frame : frame_waits new.waiting ≡ true → frame_waits old.waiting ≡ true

-- the device calls of going on there, behind the two of a mend where a gate waited: six, or eight where the other gate
-- was no synced 0; where it fails no more than those and the two that close the other gate again
pub record SwitchTakes (ok waits : Bool) (before after : ℕ) : Type 0 where
  pub done : ok ≡ true → (after ≡ before + mend_calls waits + 6) ⊎ (after ≡ before + mend_calls waits + 8)
  pub most : after ≤ before + mend_calls waits + 10

-- whatever board stood there stands there still, where the head that it may go on with is that of its rows, and where
-- nothing waited to be mended it is known what a stop leaves to the byte
abbrev pub StandsCompacted : {D : Type 0} → (D → Option Past) → Bool → List ℕ → JournalView D → JournalView D → Type 0
StandsCompacted told ok head old new =
    (base : Rows) (log : List Item) (marks : List ℕ) (since : ℕ) → IsLawful base log → IsValid (replay_log base log)
    → StandsOn told base log marks since old → (has_to_compact old ≡ true → IsHeadOf (replay_log base log) head)
    → StandsOn told base log marks since new
    × Goes (told old.disk) (told new.disk) (Checkpoints ok (is_waiting old.waiting) (replay_log base log))

-- what a journal knows by itself after that: it has no defect and no more frames; where it failed it has its version,
-- its generation and its frames; where it succeeded it has its generation or the next one, nothing waits, and unless it
-- was in the last generation it has no frames and the newest version; a gate behind frames waits only where no
-- checkpoint is due
pub record HasCompacted {D : Type 0} (ok : Bool) (old new : JournalView D) : Type 0 where
  pub whole : new.broken ≡ false
  pub frames : new.frames ≤ old.frames
  pub stood : ok ≡ false
      → (new.version ≡ old.version) × (new.generation ≡ old.generation) × (new.frames ≡ old.frames)
  pub turned : ok ≡ true → (new.generation ≡ old.generation) ⊎ (new.generation ≡ old.generation + 1)
  pub waits : ok ≡ true → is_waiting new.waiting ≡ false
  pub left : ok ≡ true → old.generation < 2 ^ 64 - 1 → (new.frames ≡ 0) × (new.version ≡ newest)
  pub crowded : (frame_waits old.waiting ≡ true → wants_checkpoint old ≡ false)
      → frame_waits new.waiting ≡ true → wants_checkpoint new ≡ false

-- nothing has changed but its disk, whether something waits, the version, the generation and the frames of its area, of
-- which there are no more, and its room, which is no less; where it failed it has its version, its generation and its
-- frames; where it succeeded it has its generation or the next one, nothing waits, whatever waited before, and unless
-- it was in the last generation it has no frames and the newest version
pub record StaysCompacted {D : Type 0} (ok : Bool) (old new : View D) : Type 0 where
  pub same : new ≡ record old {
    disk = new.disk;
    waits = new.waits;
    version = new.version;
    generation = new.generation;
    frames = new.frames;
    spare = new.spare;
  }
  pub frames : new.frames ≤ old.frames
  pub room : old.spare ≤ new.spare
  pub stood : ok ≡ false
      → (new.version ≡ old.version) × (new.generation ≡ old.generation) × (new.frames ≡ old.frames)
  pub turned : ok ≡ true → (new.generation ≡ old.generation) ⊎ (new.generation ≡ old.generation + 1)
  pub calm : ok ≡ true → new.waits ≡ false
  pub left : ok ≡ true → old.generation < 2 ^ 64 - 1 → (new.frames ≡ 0) × (new.version ≡ newest)

-- the device calls of a checkpoint, behind the two of a mend where a gate waited: eight, and two more where it failed
pub record CheckpointTakes (ok waits : Bool) (before after : ℕ) : Type 0 where
  pub done : ok ≡ true → after ≤ before + mend_calls waits + 8
  pub most : after ≤ before + mend_calls waits + 10
