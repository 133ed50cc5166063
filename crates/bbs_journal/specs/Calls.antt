-- What the calls of a journal do to what a disk tells.
use Rattle.std.specs.Prelude.{◌≡◌, ◌⊎◌, ℕ, ◌+◌, ◌<◌, ◌≤◌, ◌^◌, Bool, true, false, Option, Some, None, List, [], ◌∷◌, ◌++◌, length, if◌then◌else◌}
use Rattle.disk_trait.specs.Held.{Held}
use Rattle.disk_trait.specs.Past.{Past, now, content}
use Rattle.disk_trait.specs.Runs.{Runs}
use Rattle.disk_trait.specs.Steps.{Changes, Wrote, Synced, overwritten}
use Rattle.disk_trait.specs.declared.area.Area.{Area}
use Rattle.bbs_journal.specs.Frames.{IsPayload}
use Rattle.bbs_journal.specs.Areas.{BeforeOrAfter, Ready, Waits, Stands, body_of}
use Rattle.bbs_journal.specs.View.{JournalView, is_waiting}
use Rattle.bbs_journal.specs.declared.other_gate.OtherGate.{OtherGate}
use Rattle.bbs_journal.specs.declared.other_gate.OtherGate.TheVariants.{Shut}
use Rattle.bbs_journal.specs.declared.waiting.Waiting.{Waiting}
use Rattle.bbs_journal.specs.declared.waiting.Waiting.TheVariants.{Nothing, Frame, Header}

-- what an append asks: a payload, an area without a defect, nothing in doubt, and fewer frames than can be counted
pub record Fits {D : Type 0} (bytes : List ℕ) (journal : JournalView D) : Type 0 where
  pub payload : IsPayload bytes
  pub whole : journal.broken ≡ false
  pub mended : journal.waiting ≡ Nothing
  pub frames : journal.frames < 2 ^ 48

-- a step of so many device calls: it makes all of them where it succeeds, and no more where it fails
pub record TakesCalls (ok : Bool) (calls before after : ℕ) : Type 0 where
  pub done : ok ≡ true → after ≡ before + calls
  pub most : after ≤ before + calls

-- how many device calls a mend makes, by whether something waits
abbrev pub mend_calls : Bool → ℕ
mend_calls true = 2
mend_calls false = 0

-- a write and then a sync; it failed where one of them did
abbrev pub WritesSynced : Bool → Area → ℕ → List ℕ → Past → Past → Type 0
WritesSynced true area at bytes p q = (r : Past) × Changes area (Wrote true at bytes) p r × Changes area (Synced true) r q
WritesSynced false area at bytes p q =
    Changes area (Wrote false at bytes) p q ⊎ ((r : Past) × Changes area (Wrote true at bytes) p r × Changes area (Synced false) r q)

-- how an append leaves the area: acknowledged, refused with no trace, or in doubt
abbrev pub Appended : Bool → Bool → List ℕ → List (List ℕ) → List ℕ → ℕ → Held → Type 0
Appended true waits head payloads payload end held = Ready head (payloads ++ payload ∷ []) (end + 3 + length payload) held
Appended false false head payloads payload end held = Ready head payloads end held
Appended false true head payloads payload end held = Waits head payloads payload end held

-- an append to an area that holds these payloads, and what a stop leaves during it and after it
pub record Appends (area : Area) (ok waits : Bool) (head : List ℕ) (payloads : List (List ℕ)) (payload : List ℕ)
    (end : ℕ) (p q : Past) : Type 0 where
  pub runs : Runs area (BeforeOrAfter head payloads payload) p q
  pub leaves : Appended ok waits head payloads payload end (now q area)

-- whatever the area holds, this payload is appended to it
abbrev pub AddsFrame : Area → Bool → Bool → List ℕ → ℕ → Past → Past → Type 0
AddsFrame area ok waits payload end p q =
    (head : List ℕ) (payloads : List (List ℕ)) → Ready head payloads end (now p area) → Appends area ok waits head payloads payload end p q

-- what a read gives is what it gave, with a gate of 1, the payload and a closed gate over it from this place on
abbrev pub WritesFrame : Area → ℕ → List ℕ → Past → Past → Type 0
WritesFrame area end payload p q = content q area ≡ overwritten end (1 ∷ body_of payload) (content p area)

-- the doubt that is left after a mend
abbrev pub left_of : Bool → List ℕ → Option (List ℕ)
left_of ok payload = if ok then None else Some payload

-- closing a gate in doubt, and what a stop leaves during it and after it
pub record Mends (area : Area) (ok : Bool) (head : List ℕ) (payloads : List (List ℕ)) (payload : List ℕ) (end : ℕ)
    (p q : Past) : Type 0 where
  pub runs : Runs area (BeforeOrAfter head payloads payload) p q
  pub leaves : Stands head payloads (left_of ok payload) end (now q area)

-- whatever payload is in doubt, its gate is closed
abbrev pub Closes : Area → Bool → ℕ → Past → Past → Type 0
Closes area ok end p q =
    (head : List ℕ) (payloads : List (List ℕ)) (payload : List ℕ) → Waits head payloads payload end (now p area)
    → Mends area ok head payloads payload end p q

-- what no append and no mend changes: the area, its version, its generation, and that it has no defect
pub record Stays {D : Type 0} (old new : JournalView D) : Type 0 where
  pub area : new.area ≡ old.area
  pub version : new.version ≡ old.version
  pub generation : new.generation ≡ old.generation
  pub broken : new.broken ≡ old.broken

-- what a journal knows by itself after a payload of this length: where its area ends, that the other gate is as
-- it was, and that only a failed append leaves something to mend, its own gate
pub record GrowsBy {D : Type 0} (ok : Bool) (len : ℕ) (old new : JournalView D) : Type 0 where
  pub stays : Stays old new
  pub gate : new.gate ≡ old.gate
  pub end : new.end ≡ (if ok then old.end + 3 + len else old.end)
  pub frames : new.frames ≡ (if ok then old.frames + 1 else old.frames)
  pub waits : ok ≡ true → new.waiting ≡ Nothing
  pub frame : new.waiting ≡ (if is_waiting new.waiting then Frame else Nothing)

-- what is known of the other gate after a mend: one that waited is shut
abbrev pub gate_mended : Waiting → OtherGate → OtherGate
gate_mended Nothing gate = gate
gate_mended Frame gate = gate
gate_mended Header gate = Shut

-- after a mend nothing waits, and after one that failed what waited waits still; all else is as it was, but for a
-- header gate that was closed
pub record Settles {D : Type 0} (ok : Bool) (old new : JournalView D) : Type 0 where
  pub stays : Stays old new
  pub end : new.end ≡ old.end
  pub frames : new.frames ≡ old.frames
  pub waits : is_waiting new.waiting ≡ (if ok then false else true)
  pub waiting : new.waiting ≡ (if ok then Nothing else old.waiting)
  pub gate : new.gate ≡ (if ok then gate_mended old.waiting old.gate else old.gate)
  pub idle : old.waiting ≡ Nothing → (ok ≡ true) × (new ≡ old)
