-- A journal as its callers see it.
use Rattle.std.specs.Prelude.{◌≡◌, ℕ, ◌<◌, Bool, true, false, Option, List, ◌∷◌, length, is_some}
use Rattle.disk_trait.specs.Held.{Has}
use Rattle.disk_trait.specs.Past.{Past, now, other}
use Rattle.disk_trait.specs.declared.area.Area.{Area}
use Rattle.bbs_journal.specs.Areas.{Stands}
use Rattle.bbs_journal.specs.Beside.{Beside}
use Rattle.bbs_journal.specs.Grammar.{heading}
use Rattle.bbs_journal.specs.Header.{IsVersion}
use Rattle.bbs_journal.specs.declared.other_gate.OtherGate.{OtherGate}
use Rattle.bbs_journal.specs.declared.waiting.Waiting.{Waiting}
use Rattle.bbs_journal.specs.declared.waiting.Waiting.TheVariants.{Nothing, Frame, Header}

-- a gate is in doubt
abbrev pub is_waiting : Waiting → Bool
is_waiting Nothing = false
is_waiting Frame = true
is_waiting Header = true

-- and it is the one behind the last frame
abbrev pub frame_waits : Waiting → Bool
frame_waits Nothing = false
frame_waits Frame = true
frame_waits Header = false

-- its disk, the area of its frames with the version and the generation of that, the place of its last gate, how many
-- frames were acknowledged, which gate has to be mended, whether there is no gate at that place but a
-- defect, and what is known of the header gate of the other area
pub record JournalView (D : Type 0) : Type 0 where
  pub disk : D
  pub area : Area
  pub version : ℕ
  pub generation : ℕ
  pub end : ℕ
  pub frames : ℕ
  pub waiting : Waiting
  pub broken : Bool
  pub gate : OtherGate

-- nothing has to be mended, and the area has no defect
pub record IsCalm {D : Type 0} (journal : JournalView D) : Type 0 where
  pub whole : journal.broken ≡ false
  pub mended : journal.waiting ≡ Nothing

-- an area holds an open header of this version, which is one that is read, and this generation, some head and so many frames, and the gate behind them is
-- in doubt exactly where that waits
pub record HoldsFrames (area : Area) (version generation end frames : ℕ) (waits : Bool) (p : Past) : Type 0 where
  pub gate : ℕ
  pub is_open : 0 < gate
  pub version_is : IsVersion version
  pub head : List ℕ
  pub payloads : List (List ℕ)
  pub doubt : Option (List ℕ)
  pub count : frames ≡ length payloads
  pub doubtful : waits ≡ is_some doubt
  pub stands : Stands (gate ∷ heading version generation head) payloads doubt end (now p area)

-- so stands each journal: its area holds as many frames as it counts, unless it is broken, and the
-- other area stands beside it
pub record IsKept (area : Area) (version generation end frames : ℕ) (waiting : Waiting) (broken : Bool) (gate : OtherGate)
    (p : Past) : Type 0 where
  pub holds : broken ≡ false → HoldsFrames area version generation end frames (frame_waits waiting) p
  pub next : List ℕ
  pub beside : Has (Beside next waiting gate generation) (now p (other area))
