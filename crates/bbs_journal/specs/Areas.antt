-- An area of frames, and how it stands between two calls: what a read gives of it and whatever a stop
-- may leave. The head is all bytes in front of the frames.
use Rattle.std.specs.Prelude.{◌≡◌, ◌⊎◌, ℕ, Option, Some, None, List, [], ◌∷◌, ◌++◌, length}
use Rattle.disk_trait.specs.Held.{Held, Has}
use Rattle.bbs_journal.specs.Frames.{IsPayload, frame_spelled, Whole}

-- the bytes begin with this front
pub record Begins (front bytes : List ℕ) : Type 0 where
  pub rest : List ℕ
  pub parts : bytes ≡ front ++ rest

-- the bytes begin with this front, then a gate, open or closed, and then this body
pub record Staged (front body bytes : List ℕ) : Type 0 where
  pub gate : ℕ
  pub rest : List ℕ
  pub parts : bytes ≡ front ++ gate ∷ (body ++ rest)

-- what is written behind the gate of a new frame: the payload, and the next closed gate
abbrev pub body_of : List ℕ → List ℕ
body_of payload = frame_spelled payload ++ 0 ∷ []

-- the bytes are the head, a frame for each payload, a closed gate, and anything behind it
pub record IsArea (head : List ℕ) (payloads : List (List ℕ)) (bytes : List ℕ) : Type 0 where
  pub frames : List ℕ
  pub whole : Whole payloads frames
  pub begins : Begins (head ++ frames ++ 0 ∷ []) bytes

-- the area holds these payloads, or those and one more
abbrev pub BeforeOrAfter : List ℕ → List (List ℕ) → List ℕ → List ℕ → Type 0
BeforeOrAfter head payloads payload bytes = IsArea head payloads bytes ⊎ IsArea head (payloads ++ payload ∷ []) bytes

-- the area holds these payloads, whatever a stop leaves, and its closed gate stands at this place
pub record Ready (head : List ℕ) (payloads : List (List ℕ)) (end : ℕ) (held : Held) : Type 0 where
  pub frames : List ℕ
  pub whole : Whole payloads frames
  pub place : end ≡ length (head ++ frames)
  pub has : Has (Begins (head ++ frames ++ 0 ∷ [])) held

-- the gate at this place may be open or closed, and behind it stands this payload, which wasn't acknowledged
pub record Waits (head : List ℕ) (payloads : List (List ℕ)) (payload : List ℕ) (end : ℕ) (held : Held) : Type 0 where
  pub frames : List ℕ
  pub whole : Whole payloads frames
  pub fits : IsPayload payload
  pub place : end ≡ length (head ++ frames)
  pub has : Has (Staged (head ++ frames) (body_of payload)) held

-- the area with these payloads, and with a doubt whether it holds one more
abbrev pub Stands : List ℕ → List (List ℕ) → Option (List ℕ) → ℕ → Held → Type 0
Stands head payloads None end held = Ready head payloads end held
Stands head payloads (Some payload) end held = Waits head payloads payload end held

-- bytes behind one head are an area of one list of payloads
abbrev pub AreOne : Type 0
AreOne = (head bytes : List ℕ) (a b : List (List ℕ)) → IsArea head a bytes → IsArea head b bytes → a ≡ b
