-- The past of the two areas held in memory.
use Rattle.std.specs.Prelude.{◌≡◌, ℕ}
use Rattle.std.specs.Coded.{×_prop}
use Rattle.disk_trait.specs.Held.{Held}
use Rattle.disk_trait.specs.Past.{Past, other}
use Rattle.disk_trait.specs.Deeds.{NumberedTo, NumberedTo-prop}
use Rattle.disk_trait.specs.MemoryPast.{held_at, AddsStep}
use Rattle.disk_trait.specs.declared.area.Area.{Area}
use Rattle.disk_trait.specs.declared.area.Area.TheVariants.{A, B}
use Rattle.disk_trait.specs.declared.areas.Areas.{Areas}
use Rattle.disk_trait.specs.declared.memory_area.MemoryArea.{MemoryArea}
use Rattle.disk_trait.specs.Possible.{possible_at}

-- the area of that name
abbrev pub part : Areas → Area → MemoryArea
part areas A = areas.a
part areas B = areas.b

-- no deed is of a later call
abbrev pub Numbered : ℕ → Areas → Type 0
Numbered clock areas = NumberedTo clock areas.a.entries.items × NumberedTo clock areas.b.entries.items

pub Numbered-prop : (clock : ℕ) (areas : Areas) → IsProp (Numbered clock areas)
Numbered-prop clock areas = ×_prop (NumberedTo-prop clock areas.a.entries.items) (NumberedTo-prop clock areas.b.entries.items)

-- what is the same after the call
abbrev pub Same : Held → Held → Type 0
Same old new = new ≡ old

-- in the call behind this clock that area makes this step, and the other none
pub record Moves (clock : ℕ) (area : Area) (Step : Held → Held → Type 0) (old new : Areas) : Type 0 where
  pub here : AddsStep clock Step (part old area) (part new area)
  pub there : AddsStep clock Same (part old (other area)) (part new (other area))

-- what the areas have been up to this clock
abbrev pub past_of : Areas → ℕ → Past
past_of areas clock = record {
  clock = clock;
  held = λ moment area. held_at (part areas area) moment;
  possible = λ moment area. possible_at (part areas area) moment;
}
