-- What a test may see of a stop, from deed to deed.
use Rattle.std.specs.Prelude.{◌≡◌, ◌⊎◌, ℕ, List}
use Rattle.disk_trait.specs.Held.{Held, Torn, AreBytes, Leaves}
use Rattle.disk_trait.specs.Past.{Image}
use Rattle.disk_trait.specs.Deeds.{undone, before, range_named, Sound, held_after, held_until}
use Rattle.disk_trait.specs.declared.area.Area.TheVariants.{A, B}
use Rattle.disk_trait.specs.declared.deed.Deed.{Deed}
use Rattle.disk_trait.specs.declared.deed.Entry.{Entry}

-- the image of these two areas
abbrev pub image_of : List ℕ → List ℕ → Image
image_of a b A = a
image_of a b B = b

-- bytes with this range torn to other bytes
abbrev pub Tears : ℕ → ℕ → List ℕ → List ℕ → Type 0
Tears from len left next = Torn (record { from = from; len = len }) left next × (AreBytes left → AreBytes next)

-- what was left before the write with its range torn, or what is read after it
abbrev pub Picked : ℕ → ℕ → List ℕ → List ℕ → List ℕ → Type 0
Picked from len left after next = Tears from len left next ⊎ (next ≡ after)

-- from what a stop could leave before the deed to what it may leave after it
abbrev pub FollowsDeed : Deed → List ℕ → List ℕ → List ℕ → Type 0
FollowsDeed deed left after next =
    (held : Held) → Leaves held left → Leaves held held.reads → held.reads ≡ undone deed after
    → Torn (range_named deed) (undone deed after) after → AreBytes after → Leaves (held_after deed held after) next

-- the same over those of the deeds whose calls came up to this moment
abbrev pub ReachesAt : ℕ → List Entry → List ℕ → List ℕ → List ℕ → Type 0
ReachesAt moment entries bytes left last =
    (held : Held) → Leaves held left → Leaves held held.reads → held.reads ≡ before entries bytes
    → Sound entries bytes → Leaves (held_until moment entries held bytes) last
