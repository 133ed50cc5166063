-- Why what an area in memory reads is always one of the things that a stop may leave of it.
use Rattle.std.specs.Prelude.{◌≡◌, ℕ, Bool, true, false, nat_le, if◌then◌else◌, List, [], ◌∷◌, refl}
use Rattle.std.proofs.Common.{sym, subst, arith}
use Rattle.disk_trait.specs.Held.{Held, Range, Torn, Leaves, AreBytes}
use Rattle.disk_trait.specs.Deeds.{undone, before, range_named, Sound, held_after, held_until, settled_on}
use Rattle.disk_trait.specs.MemoryPast.{held_at}
use Rattle.disk_trait.specs.declared.deed.Deed.{Deed}
use Rattle.disk_trait.specs.declared.deed.Deed.TheVariants.{Write, Tear, Sync}
use Rattle.disk_trait.specs.declared.deed.Entry.{Entry}
use Rattle.disk_trait.specs.declared.memory_area.MemoryArea.{MemoryArea}

-- a range that was torn may have been left as it was
pub torn_same : (range : Range) (bytes : List ℕ) → Torn range bytes bytes
torn_same range bytes = record { before = refl; after = refl; no_shorter = omega arith; no_longer = omega arith }

pub reads_after : (deed : Deed) (held : Held) (after : List ℕ) → held.reads ≡ undone deed after → (held_after deed held after).reads ≡ after
reads_after (Write from len over) held after is = refl
reads_after (Tear from len) held after is = is
reads_after Sync held after is = is

pub sound_bytes : (entries : List Entry) (after : List ℕ) → Sound entries after → AreBytes after
sound_bytes [] after sound = sound
sound_bytes (e ∷ entries) after sound = sound_bytes entries after sound.2

pub sound_before : (entries : List Entry) (after : List ℕ) → Sound entries after → AreBytes (before entries after)
sound_before [] after sound = sound
sound_before (e ∷ entries) after sound = sound.0

-- what is read is one of the things that a stop may leave
pub possible_after : (deed : Deed) (held : Held) (after : List ℕ) → held.reads ≡ undone deed after
    → Torn (range_named deed) (undone deed after) after → AreBytes after → Leaves held held.reads
    → Leaves (held_after deed held after) (held_after deed held after).reads
possible_after (Write from len over) held after is torn bytes possible = record {
  torn = (
    held.reads,
    possible.torn,
    possible.bytes,
    subst (λ (l : List ℕ). Torn (record { from = from; len = len }) l after) (sym is) torn,
  );
  bytes = bytes;
}
possible_after (Tear from len) held after is torn bytes possible =
    record { torn = (held.reads, possible.torn, possible.bytes, torn_same _ held.reads); bytes = possible.bytes }
possible_after Sync held after is torn bytes possible = record { torn = refl; bytes = possible.bytes }

pub possible_until : (m : ℕ) (entries : List Entry) (held : Held) (after : List ℕ) → Sound entries after
    → held.reads ≡ before entries after → Leaves held held.reads
    → Leaves (held_until m entries held after) (held_until m entries held after).reads
possible_until m [] held after sound is possible = possible
possible_until m (e ∷ entries) held after sound is possible =
    elim (nat_le e.call m) as (λ (b : Bool).
    let h = if b then held_until m entries (held_after e.deed held (before entries after)) after else held in
    Leaves h h.reads) [
      | true ↦ possible_until m entries (held_after e.deed held (before entries after)) after sound.2
          (reads_after e.deed held (before entries after) is)
          (possible_after e.deed held (before entries after) is sound.1 (sound_before entries after sound.2) possible)
      | false ↦ possible
    ]

pub possible_at : (area : MemoryArea) (moment : ℕ) → Leaves (held_at area moment) (held_at area moment).reads
possible_at area moment =
    let first = before area.entries.items area.bytes.items in
    let bytes : AreBytes first = sound_before area.entries.items area.bytes.items area.sound in
    possible_until moment area.entries.items (settled_on first) area.bytes.items area.sound refl (record { torn = refl; bytes = bytes })
