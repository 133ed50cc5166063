-- The past of an area held in memory.
use Rattle.std.specs.Prelude.{◌≡◌, ℕ, ◌+◌, ◌≤◌, Bool, true, false}
use Rattle.disk_trait.specs.Held.{Held}
use Rattle.disk_trait.specs.Steps.{pend}
use Rattle.disk_trait.specs.Deeds.{before, held_until, settled_on, NumberedTo}
use Rattle.disk_trait.specs.declared.memory_area.MemoryArea.{MemoryArea}

-- what the area held at this moment
abbrev pub held_at : MemoryArea → ℕ → Held
held_at area moment =
    held_until moment area.entries.items (settled_on (before area.entries.items area.bytes.items)) area.bytes.items

-- a write that failed: its range is pending from now on, or nothing has been done at all
abbrev pub Tore : Bool → ℕ → ℕ → Held → Held → Type 0
Tore true from len old new = new ≡ pend old (record { from = from; len = len }) old.reads
Tore false from len old new = new ≡ old

-- in the call behind this clock the area makes this step, and what it was before stays told
pub record AddsStep (clock : ℕ) (Step : Held → Held → Type 0) (old new : MemoryArea) : Type 0 where
  pub earlier : (moment : ℕ) → moment ≤ clock → held_at new moment ≡ held_at old moment
  pub step : Step (held_at old clock) (held_at new (clock + 1))
  pub numbered : NumberedTo (clock + 1) new.entries.items
