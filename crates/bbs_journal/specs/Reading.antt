-- The steps of a reader over the frames of an area.
use Rattle.std.specs.Prelude.{ℕ, ◌+◌, ◌≤◌, ◌==◌, ◌||◌, nat_lt, Option, Some, None, List, [], ◌∷◌, length, take, map, if◌then◌else◌}
use Rattle.std.specs.Int.{w16, from_be_bytes}
use Rattle.std.specs.List.{sum_by}
use Rattle.std.specs.declared.vec.Vec.{Vec}
use Rattle.bbs_journal.specs.Frames.{IsFrame}
use Rattle.bbs_journal.specs.Areas.{Begins}
use Rattle.bbs_journal.specs.Opening.{IsBroken}
use Rattle.bbs_journal.specs.declared.frame.Next.{Next}
use Rattle.bbs_journal.specs.declared.frame.Next.TheVariants.{Frame, Gate, Defect}

-- the length that follows an open gate, where that is one of a payload and so many bytes are there
unfoldable pub len_in : List ℕ → Option ℕ
len_in bytes =
    if nat_lt (length bytes) 2 then None
    else (let len = from_be_bytes w16 (take 2 bytes) in
    if len == 0 || nat_lt 512 len || nat_lt (length bytes) (2 + len) then None else Some len)

-- this is what the bytes begin with
abbrev pub IsAt : Next → List ℕ → Type 0
IsAt (Frame payload) bytes = (rest : List ℕ) × IsFrame payload.items bytes rest
IsAt Gate bytes = Begins (0 ∷ []) bytes
IsAt Defect bytes = IsBroken bytes

-- a frame that was met has one of the lengths of a frame, and so many bytes hold it
abbrev pub IsFrameWithin : Next → ℕ → Type 0
IsFrameWithin (Frame payload) len = (length payload.items ≤ 512) × (3 + length payload.items ≤ len)
IsFrameWithin Gate len = 1 ≤ len
IsFrameWithin Defect len = Unit {0}

-- the lists that these hold
abbrev pub payloads_of : {Z : Type 0} → List (Vec ℕ Z) → List (List ℕ)
payloads_of frames = map (λ v. v.items) frames

-- how many bytes the frames of these payloads take
abbrev pub bytes_of : List (List ℕ) → ℕ
bytes_of payloads = sum_by (λ payload. 3 + length payload) payloads
