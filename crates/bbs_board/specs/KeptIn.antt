-- Where on its disk a board is kept, and how long it takes to open.
use Rattle.std.specs.Prelude.{◌≡◌, ℕ, ◌≤◌, max, Bool, true, false, List, length}
use Rattle.disk_trait.specs.Past.{Past, Image, Images, content}
use Rattle.bbs_journal.specs.Stops.{OpensAs}
use Rattle.bbs_board.specs.Written.{Reading, OpensTo}
use Rattle.bbs_board.specs.declared.kept_in.KeptIn.{KeptIn}

-- what the disk reads is opened in that area, in some version, with that generation and so many frames
pub record IsKeptIn (place : KeptIn) (p : Past) : Type 0 where
  pub version : ℕ
  pub head : List ℕ
  pub payloads : List (List ℕ)
  pub opens : OpensAs (content p) place.area version place.generation head payloads
  pub count : place.frames ≡ length payloads

-- whatever a stop now leaves is opened with so many payloads at most
abbrev pub HasAtMost : ℕ → Past → Type 0
HasAtMost most p = (image : Image) → Images p image → (r : Reading) → OpensTo r image → length r.payloads ≤ most

-- how many frames an area has after a call at most: 4,096 where it stored its command, else that or as many as before
abbrev pub most_after : Bool → ℕ → ℕ
most_after true frames = 4096
most_after false frames = max 4096 frames

-- there are so many frames at most, and whatever a stop now leaves has no more
pub record StaysShort (most frames : ℕ) (p : Past) : Type 0 where
  pub few : frames ≤ most
  pub opened : HasAtMost most p
