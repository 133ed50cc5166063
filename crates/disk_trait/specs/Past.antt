-- A disk at each moment so far, and the images that a stop may leave of it.
use Rattle.std.specs.Prelude.{ℕ, ◌≤◌, List}
use Rattle.disk_trait.specs.Held.{Held, Leaves, IsSettledArea}
use Rattle.disk_trait.specs.declared.area.Area.{Area}
use Rattle.disk_trait.specs.declared.area.Area.TheVariants.{A, B}

-- the number of device calls so far, what each area held after so many of them, and that
-- what a disk reads is bytes, and one of the things that a stop may leave
pub record Past : Type 0 where
  pub clock : ℕ
  pub held : ℕ → Area → Held
  pub possible : (moment : ℕ) (area : Area) → Leaves (held moment area) (held moment area).reads

-- what an area holds now
abbrev pub now : Past → Area → Held
now p area = p.held p.clock area

-- the bytes of an area that a read gives now
abbrev pub content : Past → Area → List ℕ
content p area = (now p area).reads

-- the area that isn't this one
abbrev pub other : Area → Area
other A = B
other B = A

-- what a stop leaves: the bytes of each area
abbrev pub Image : Type 0
Image = Area → List ℕ

-- a stop now may leave this
abbrev pub Images : Past → Image → Type 0
Images p image = (area : Area) → Leaves (now p area) (image area)

-- a stop at some moment from this clock on may have left this
pub record ImagesSince (p : Past) (since : ℕ) (image : Image) : Type 0 where
  pub moment : ℕ
  pub from : since ≤ moment
  pub to : moment ≤ p.clock
  pub leaves : (area : Area) → Leaves (p.held moment area) (image area)

-- a stop now leaves what a read gives, and nothing else
abbrev pub IsSettled : Past → Type 0
IsSettled p = (area : Area) → IsSettledArea (now p area)
