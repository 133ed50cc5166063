-- The deeds done to an area held in memory, oldest first, and the area before and after each.
use Rattle.std.specs.Prelude.{ℕ, ◌+◌, ◌≤◌, nat_le, if◌then◌else◌, List, [], ◌∷◌, ◌++◌, take, drop, ⊤}
use Rattle.std.specs.Coded.{×_prop, Unit-prop, le_prop}
use Rattle.std.proofs.Props.{props}
use Rattle.disk_trait.specs.Held.{Held, Range, Torn, AreBytes}
use Rattle.disk_trait.specs.Steps.{pend, settle}
use Rattle.disk_trait.specs.declared.deed.Deed.{Deed}
use Rattle.disk_trait.specs.declared.deed.Deed.TheVariants.{Write, Tear, Sync}
use Rattle.disk_trait.specs.declared.deed.Entry.{Entry}

-- the bytes before the deed, where these are there after it
abbrev pub undone : Deed → List ℕ → List ℕ
undone (Write from len over) after = take from after ++ over.items ++ drop (from + len) after
undone (Tear from len) after = after
undone Sync after = after

-- the bytes before these deeds, where these are there after them
abbrev pub before : List Entry → List ℕ → List ℕ
before [] after = after
before (entry ∷ entries) after = undone entry.deed (before entries after)

-- the range that the deed named
abbrev pub range_named : Deed → Range
range_named (Write from len over) = record { from = from; len = len }
range_named (Tear from len) = record { from = from; len = len }
range_named Sync = record { from = 0; len = 0 }

-- each deed changed bytes of its range alone, and it is bytes that were there at each moment
abbrev pub Sound : List Entry → List ℕ → Type 0
Sound [] after = AreBytes after
Sound (entry ∷ entries) after =
    AreBytes (before (entry ∷ entries) after)
    × Torn (range_named entry.deed) (before (entry ∷ entries) after) (before entries after) × Sound entries after

-- what the area holds after the deed, where reads give these bytes then
abbrev pub held_after : Deed → Held → List ℕ → Held
held_after (Write from len over) held after = pend held (range_named (Write from len over)) after
held_after (Tear from len) held after = pend held (range_named (Tear from len)) held.reads
held_after Sync held after = settle held

-- the same after those of the deeds whose calls came up to this moment
abbrev pub held_until : ℕ → List Entry → Held → List ℕ → Held
held_until moment [] held after = held
held_until moment (entry ∷ entries) held after =
    if nat_le entry.call moment then held_until moment entries (held_after entry.deed held (before entries after)) after else held

-- a state in which these bytes are read, and nothing is pending
abbrev pub settled_on : List ℕ → Held
settled_on bytes = record { reads = bytes; synced = bytes; pending = [] }

-- no deed is of a later call
abbrev pub NumberedTo : ℕ → List Entry → Type 0
NumberedTo clock [] = ⊤
NumberedTo clock (entry ∷ entries) = (entry.call ≤ clock) × NumberedTo clock entries

pub NumberedTo-prop : (clock : ℕ) (entries : List Entry) → IsProp (NumberedTo clock entries)
NumberedTo-prop clock [] = Unit-prop
NumberedTo-prop clock (entry ∷ entries) = ×_prop le_prop (NumberedTo-prop clock entries)

pub Sound-prop : (entries : List Entry) (after : List ℕ) → IsProp (Sound entries after)
Sound-prop [] after = hlevel props
Sound-prop (entry ∷ entries) after = let rest = Sound-prop entries after in hlevel (props, rest)
