-- What a disk's two areas are opened as, and where the first defect is where they can't be.
use Rattle.std.specs.Prelude.{◌≡◌, ℕ, ◌+◌, ◌&&◌, ◌==◌, nat_lt, nat_le, Bool, Option, Some, None, List, [], ◌∷◌, length, take, drop, Result, Ok, Err, if◌then◌else◌}
use Rattle.std.specs.Int.{w32, w64, from_be_bytes}
use Rattle.disk_trait.specs.Past.{Image}
use Rattle.disk_trait.specs.declared.area.Area.{Area}
use Rattle.disk_trait.specs.declared.area.Area.TheVariants.{A, B}
use Rattle.bbs_journal.specs.Frames.{IsFrame}
use Rattle.bbs_journal.specs.Areas.{Begins}
use Rattle.bbs_journal.specs.Header.{front, header_of}
use Rattle.bbs_journal.specs.declared.active.Active.{Active}
use Rattle.bbs_journal.specs.declared.header.Header.{Header}
use Rattle.bbs_journal.specs.declared.header.Header.TheVariants.{Closed, Foreign, Cut, Open}
use Rattle.bbs_journal.specs.declared.load_fault.LoadFault.{LoadFault}
use Rattle.bbs_journal.specs.declared.load_fault.LoadFault.TheVariants.{NotABoard, Damaged}

-- of two open areas, whatever their versions, the one of the greater generation
abbrev pub newer : Active → Active → Result Active LoadFault
newer a b =
    if a.generation == b.generation then Err (Damaged B 11)
    else (if nat_lt b.generation a.generation then Ok a else Ok b)

-- the area that is read, by the headers of both: the tests that stand first in the table come first
abbrev pub active_of : Header → Header → Result Active LoadFault
active_of Foreign b = Err (NotABoard A)
active_of a Foreign = Err (NotABoard B)
active_of (Closed x) (Closed y) = Err (NotABoard A)
active_of (Cut at) b = Err (Damaged A at)
active_of a (Cut at) = Err (Damaged B at)
active_of (Open version generation) (Closed y) = Ok (record { area = A; version = version; generation = generation })
active_of (Closed x) (Open version generation) = Ok (record { area = B; version = version; generation = generation })
active_of (Open v a) (Open w b) =
    newer (record { area = A; version = v; generation = a }) (record { area = B; version = w; generation = b })

-- the length of the head, as the header tells it
unfoldable pub size_in : List ℕ → ℕ
size_in bytes = from_be_bytes w32 (take 4 (drop 19 bytes))

-- the head is there as far as a number of eight bytes, and the generation is above that number plus the version
unfoldable pub is_ahead : ℕ → ℕ → List ℕ → Bool
is_ahead version generation bytes =
    nat_le 31 (length bytes) && nat_le 8 (size_in bytes) && nat_lt (from_be_bytes w64 (take 8 (drop 23 bytes)) + version) generation

-- the length of the head of an area with this front and this length
unfoldable pub size_of : Active → List ℕ → ℕ → Result ℕ LoadFault
size_of active bytes len =
    if active.generation == 0 then Err (Damaged active.area 11)
    else (if nat_lt (length bytes) 23 then Err (Damaged active.area len)
    else (if is_ahead active.version active.generation bytes then Err (Damaged active.area 11)
    else (if nat_lt len (23 + size_in bytes) then Err (Damaged active.area len)
    else Ok (size_in bytes))))

-- an area whose header and head have no defect
pub record Headed : Type 0 where
  pub area : Area
  pub version : ℕ
  pub generation : ℕ
  pub head : List ℕ

infixl 10 ◌>>=◌
-- one test after another, up to the first that fails
abbrev pub ◌>>=◌ : {X Y E : Type 0} → Result X E → (X → Result Y E) → Result Y E
(Ok x) >>= f = f x
(Err e) >>= f = Err e

-- what an image is opened as, up to its head
unfoldable pub headed : Image → Result Headed LoadFault
headed c = do
  active ← active_of (header_of (front (c A))) (header_of (front (c B)))
  size ← size_of active (front (c active.area)) (length (c active.area))
  Ok (record { area = active.area; version = active.version; generation = active.generation; head = take size (drop 23 (c active.area)) })

-- the bytes begin neither with a closed gate nor with a whole frame
pub record IsBroken (bytes : List ℕ) : Type 0 where
  pub no_gate : Begins (0 ∷ []) bytes → ⊥
  pub no_frame : (payload rest : List ℕ) → IsFrame payload bytes rest → ⊥

-- what stands behind the last frame: a closed gate, or a defect at this place
abbrev pub Stops : Option ℕ → ℕ → List ℕ → Type 0
Stops None at bytes = Begins (0 ∷ []) bytes
Stops (Some place) at bytes = (place ≡ at) × IsBroken bytes

-- these bytes, which stand at a place, are a frame for each payload up to the end, and stop there
abbrev pub AreFrames : List (List ℕ) → Option ℕ → ℕ → ℕ → List ℕ → Type 0
AreFrames [] broken end at bytes = (end ≡ at) × Stops broken at bytes
AreFrames (payload ∷ payloads) broken end at bytes =
    (rest : List ℕ) × IsFrame payload bytes rest × AreFrames payloads broken end (at + 3 + length payload) rest

-- what an image is opened as
pub record IsOpening (c : Image) (area : Area) (version generation : ℕ) (head : List ℕ) (payloads : List (List ℕ))
    (broken : Option ℕ) (end : ℕ) : Type 0 where
  pub head_is : headed c ≡ Ok (record { area = area; version = version; generation = generation; head = head })
  pub frames : AreFrames payloads broken end (23 + length head) (drop (23 + length head) (c area))
