-- What a test asks a stop to leave where ranges were pending.
use Rattle.std.specs.Prelude.{◌≡◌, ◌-◌, ℕ, ◌≤◌, nat_lt, if◌then◌else◌, List, [], ◌∷◌, length, replicate}
use Rattle.disk_trait.specs.Held.{Held, Range}
use Rattle.disk_trait.specs.Past.{Past, Image}
use Rattle.disk_trait.specs.Steps.{overwritten}
use Rattle.disk_trait.specs.Deeds.{undone, before, held_after, held_until}
use Rattle.disk_trait.specs.declared.area.Area.{Area}
use Rattle.disk_trait.specs.declared.deed.Deed.{Deed}
use Rattle.disk_trait.specs.declared.deed.Entry.{Entry}
use Rattle.disk_trait.specs.declared.image.Torn.{Torn}
use Rattle.disk_trait.specs.declared.image.Torn.TheVariants.{Old, New, Byte}

-- the bytes with this one everywhere in a range, which may make them longer; a range behind their end does nothing
abbrev pub covered_in : ℕ → ℕ → ℕ → List ℕ → List ℕ
covered_in byte from len bytes = if nat_lt (length bytes) from then bytes else overwritten from (replicate len byte) bytes

-- the bytes with this one everywhere in each of these ranges
abbrev pub covered : ℕ → List Range → List ℕ → List ℕ
covered byte [] bytes = bytes
covered byte (range ∷ ranges) bytes = covered_in byte range.from range.len (covered byte ranges bytes)

-- an area after such a stop: as it was synced, as a read gives it, or with this byte in all that is pending
abbrev pub left_as : Torn → Held → List ℕ
left_as Old held = held.synced
left_as New held = held.reads
left_as (Byte byte) held = covered byte held.pending held.synced

-- at a moment within this call a stop left this of each area
pub record StoppedIn (p : Past) (call : ℕ) (torn : Torn) (image : Image) : Type 0 where
  pub moment : ℕ
  pub from : call - 1 ≤ moment
  pub to : moment ≤ call
  pub left : (area : Area) → image area ≡ left_as torn (p.held moment area)

-- what was left before the write of a range, what is read after it, or this byte in the range
abbrev pub picked_as : Torn → ℕ → ℕ → List ℕ → List ℕ → List ℕ
picked_as Old from len left after = left
picked_as New from len left after = after
picked_as (Byte byte) from len left after = covered_in byte from len left

-- from what such a stop leaves before the deed to what it leaves after it
abbrev pub Chooses : Torn → Deed → List ℕ → List ℕ → List ℕ → Type 0
Chooses torn deed left after next =
    (held : Held) → held.reads ≡ undone deed after → left ≡ left_as torn held → next ≡ left_as torn (held_after deed held after)

-- the same over those of the deeds whose calls came up to this moment
abbrev pub ChoosesAll : Torn → ℕ → List Entry → List ℕ → List ℕ → List ℕ → Type 0
ChoosesAll torn moment entries bytes left last =
    (held : Held) → held.reads ≡ before entries bytes → left ≡ left_as torn held
    → last ≡ left_as torn (held_until moment entries held bytes)
