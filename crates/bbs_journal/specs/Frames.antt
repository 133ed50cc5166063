-- Payloads, and the frames that hold them.
use Rattle.std.specs.Prelude.{◌≡◌, ℕ, ◌<◌, ◌≤◌, List, [], ◌∷◌, ◌++◌, length}
use Rattle.std.specs.Int.{w16}
use Rattle.wire_fields.specs.Field.{field_number}

-- from 1 to 512 bytes
abbrev pub IsPayload : List ℕ → Type 0
IsPayload payload = (1 ≤ length payload) × (length payload ≤ 512)

-- what a frame holds behind its gate: the payload's length in two bytes, and its bytes
abbrev pub frame_spelled : List ℕ → List ℕ
frame_spelled payload = field_number w16 (length payload) ++ payload

-- the bytes begin with an open gate and this payload, and go on with the rest
pub record IsFrame (payload bytes rest : List ℕ) : Type 0 where
  pub gate : ℕ
  pub is_open : 0 < gate
  pub fits : IsPayload payload
  pub parts : bytes ≡ gate ∷ (frame_spelled payload ++ rest)

-- the bytes are a frame for each of these payloads, and nothing else
abbrev pub Whole : List (List ℕ) → List ℕ → Type 0
Whole [] bytes = bytes ≡ []
Whole (payload ∷ payloads) bytes = (rest : List ℕ) × IsFrame payload bytes rest × Whole payloads rest
