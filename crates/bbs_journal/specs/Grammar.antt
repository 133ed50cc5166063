-- The bytes of a disk that holds a journal, and what they come to.
use Rattle.std.specs.Prelude.{◌≡◌, ℕ, ◌+◌, ◌^◌, ◌<◌, ◌≤◌, Option, None, List, ◌∷◌, ◌++◌, length, take}
use Rattle.std.specs.Int.{w32, w64, from_be_bytes}
use Rattle.wire_fields.specs.Field.{field_number}
use Rattle.disk_trait.specs.Held.{Held, AreBytes, IsSettledArea}
use Rattle.disk_trait.specs.Past.{Image, other}
use Rattle.disk_trait.specs.declared.area.Area.{Area}
use Rattle.bbs_journal.specs.Areas.{IsArea, Ready}
use Rattle.bbs_journal.specs.Header.{IsVersion, mark}
use Rattle.bbs_journal.specs.Opening.{IsOpening}
use Rattle.bbs_journal.specs.Other.{Yields}
use Rattle.bbs_journal.specs.Reading.{bytes_of}
use Rattle.bbs_journal.specs.declared.other_gate.OtherGate.{OtherGate}

-- what stands between the header gate and the first frame: magic and version, generation, length and head
abbrev pub heading : ℕ → ℕ → List ℕ → List ℕ
heading version generation head = mark version ++ (field_number w64 generation ++ (field_number w32 (length head) ++ head))

-- a version that is read, and a generation that an area of it with this head may have
pub record GoesWith (version generation : ℕ) (head : List ℕ) : Type 0 where
  pub version_is : IsVersion version
  pub above : 0 < generation
  pub below : generation < 2 ^ 64
  pub fits : length head < 2 ^ 32
  pub not_ahead : 8 ≤ length head → generation ≤ from_be_bytes w64 (take 8 head) + version

-- an area of this version and generation holds this head and these payloads, and the other area gives way to it
pub record Recovers (c : Image) (area : Area) (version generation : ℕ) (head : List ℕ) (payloads : List (List ℕ)) : Type 0 where
  pub gate : ℕ
  pub is_open : 0 < gate
  pub goes_with : GoesWith version generation head
  pub area_is : IsArea (gate ∷ heading version generation head) payloads (c area)
  pub beside : OtherGate
  pub yields : Yields beside generation (c (other area))

-- what the grammar describes is opened so
abbrev pub AreOpened : Type 0
AreOpened =
    (c : Image) (area : Area) (version generation : ℕ) (head : List ℕ) (payloads : List (List ℕ)) → Recovers c area version generation head payloads
    → IsOpening c area version generation head payloads None (23 + length head + bytes_of payloads)

-- two openings are one
pub record AreSame (area area' : Area) (version version' generation generation' : ℕ) (head head' : List ℕ)
    (payloads payloads' : List (List ℕ)) (broken broken' : Option ℕ) (end end' : ℕ) : Type 0 where
  pub area_is : area ≡ area'
  pub version_is : version ≡ version'
  pub generation_is : generation ≡ generation'
  pub head_is : head ≡ head'
  pub payloads_are : payloads ≡ payloads'
  pub broken_is : broken ≡ broken'
  pub end_is : end ≡ end'

-- an image is opened in one way
abbrev pub OpensOnce : Type 0
OpensOnce =
    (c : Image) (area area' : Area) (version version' generation generation' : ℕ) (head head' : List ℕ)
    (payloads payloads' : List (List ℕ)) (broken broken' : Option ℕ) (end end' : ℕ)
    → IsOpening c area version generation head payloads broken end → IsOpening c area' version' generation' head' payloads' broken' end'
    → AreSame area area' version version' generation generation' head head' payloads payloads' broken broken' end end'

-- and what is opened without a defect is what the grammar describes
abbrev pub AreRecovered : Type 0
AreRecovered =
    (c : Image) (area : Area) (version generation : ℕ) (head : List ℕ) (payloads : List (List ℕ)) (end : ℕ)
    → AreBytes (c area) → IsOpening c area version generation head payloads None end
    → Recovers c area version generation head payloads

-- an append finds an area that was recovered, and is settled, ready: the gates of both stand at one place
abbrev pub AreReady : Type 0
AreReady =
    (head : List ℕ) (payloads : List (List ℕ)) (held : Held) → IsArea head payloads held.reads → IsSettledArea held
    → Ready head payloads (length head + bytes_of payloads) held
