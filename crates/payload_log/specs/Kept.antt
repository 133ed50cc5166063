-- What a log of payloads keeps, whatever stops come: a stop leaves what was opened and a beginning of the log, with
-- each entry that was acknowledged by then, and behind it one doubt at most.
use Rattle.std.specs.Prelude.{◌≡◌, ◌⊎◌, ℕ, ◌+◌, ◌≤◌, Some, List, [], ◌∷◌, ◌++◌, length, take}
use Rattle.std.specs.List.{slice_get}
use Rattle.disk_trait.specs.Past.{Past, Image, ImagesSince}
use Rattle.payload_log.specs.Entries.{stored_in}
use Rattle.payload_log.specs.Opened.{Opened, OpensBehind}
use Rattle.payload_log.specs.declared.entry.Entry.{Entry}
use Rattle.payload_log.specs.declared.entry.Entry.TheVariants.{Done, Doubt}

-- the numbers never fall, and lie between these two
abbrev pub RiseWithin : ℕ → List ℕ → ℕ → Type 0
RiseWithin low [] high = low ≤ high
RiseWithin low (mark ∷ marks) high = (low ≤ mark) × RiseWithin mark marks high

-- a doubt stands at this place of the log, and the image is opened with it behind what is done before that
pub record ShowsDoubt {X : Type 0} (spelling : X → List ℕ) (start : Opened) (log : List (Entry X)) (place : ℕ)
    (image : Image) : Type 0 where
  pub payload : X
  pub doubt : slice_get log place ≡ Some (Doubt payload)
  pub shown : OpensBehind start (stored_in spelling (take place log) ++ spelling payload ∷ []) image

-- the image is opened with what is done up to a place of the log, from this one on, or with the doubt there as well
pub record IsListed {X : Type 0} (spelling : X → List ℕ) (start : Opened) (log : List (Entry X)) (from : ℕ)
    (image : Image) : Type 0 where
  pub place : ℕ
  pub low : from ≤ place
  pub high : place ≤ length log
  pub opens : OpensBehind start (stored_in spelling (take place log)) image ⊎ ShowsDoubt spelling start log place image

-- each entry has a mark, and whatever a stop since that moment left is listed in the log, with each entry that was
-- done when its mark was reached
pub record KeptList {X : Type 0} (spelling : X → List ℕ) (start : Opened) (log : List (Entry X)) (marks : List ℕ)
    (since : ℕ) (p : Past) : Type 0 where
  pub list_count : length marks ≡ length log
  pub list_rising : RiseWithin since marks p.clock
  pub list_found : (image : Image) → ImagesSince p since image → IsListed spelling start log 0 image
  pub list_acknowledged : (place mark : ℕ) (x : X) → slice_get log place ≡ Some (Done x)
      → slice_get marks place ≡ Some mark
      → (image : Image) → ImagesSince p mark image → IsListed spelling start log (place + 1) image
