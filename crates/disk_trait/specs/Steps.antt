-- What one device call does to what a disk tells.
use Rattle.std.specs.Prelude.{◌≡◌, ◌⊎◌, ℕ, ◌+◌, ◌-◌, ◌<◌, ◌≤◌, ◌^◌, min, Bool, true, false, Option, Some, None, List, [], ◌∷◌, ◌++◌, length, take, drop}
use Rattle.disk_trait.specs.Held.{Held, Range, Torn}
use Rattle.disk_trait.specs.Past.{Past, now, other}
use Rattle.disk_trait.specs.declared.area.Area.{Area}

-- what is still told has done this; who is silent stays silent
abbrev pub Goes : Option Past → Option Past → (Past → Past → Type 0) → Type 0
Goes None None Does = Unit {0}
Goes None (Some q) Does = ⊥
Goes (Some p) None Does = Unit {0}
Goes (Some p) (Some q) Does = Does p q

-- a call takes one moment, if it succeeds or fails; at the clock's last value it fails and takes none
pub record Ticks (ok : Bool) (before now : ℕ) : Type 0 where
  pub goes : before < 2 ^ 64 - 1 → now ≡ before + 1
  pub last : 2 ^ 64 - 1 ≤ before → now ≡ before
  pub fails : 2 ^ 64 - 1 ≤ before → ok ≡ false

-- the clock has gone on by one or stands, and what the disk was before stays told
pub record Elapses (p q : Past) : Type 0 where
  pub later : p.clock ≤ q.clock
  pub by_one : q.clock ≤ p.clock + 1
  pub before : (moment : ℕ) → moment ≤ p.clock → q.held moment ≡ p.held moment

-- a call that changes nothing
pub record ChangesNothing (p q : Past) : Type 0 where
  pub time : Elapses p q
  pub same : (area : Area) → now q area ≡ now p area

-- a call that makes this step in an area, and changes nothing in the other
pub record Changes (area : Area) (Step : Held → Held → Type 0) (p q : Past) : Type 0 where
  pub time : Elapses p q
  pub here : Step (now p area) (now q area)
  pub there : now q (other area) ≡ now p (other area)

-- the room begins with the bytes from `at` on, as far as both reach
pub record Filled (bytes : List ℕ) (at count : ℕ) (before after : List ℕ) : Type 0 where
  pub count_is : count ≡ min (length before) (length bytes - at)
  pub front : take count after ≡ take count (drop at bytes)

-- so filled, and behind these bytes the room holds what it held before
pub record FilledOnly (bytes : List ℕ) (at count : ℕ) (before after : List ℕ) : Type 0 where
  pub filled : Filled bytes at count before after
  pub room : after ≡ take count (drop at bytes) ++ drop count before

-- the list with these bytes over it from `at` on
abbrev pub overwritten : ℕ → List ℕ → List ℕ → List ℕ
overwritten at bytes old = take at old ++ bytes ++ drop (at + length bytes) old

-- the range that a write of these bytes names
abbrev pub range_of : ℕ → List ℕ → Range
range_of at bytes = record { from = at; len = length bytes }

-- reads give this from now on, and the range may hold anything until the next sync
abbrev pub pend : Held → Range → List ℕ → Held
pend held range reads = record { reads = reads; synced = held.synced; pending = range ∷ held.pending }

-- a write that failed has torn its range, in what a read gives too
pub record TornWrite (range : Range) (old new : Held) : Type 0 where
  pub torn : Torn range old.reads new.reads
  pub pending : new ≡ pend old range new.reads

-- a write of these bytes at this place; one that failed may have done nothing at all
abbrev pub Wrote : Bool → ℕ → List ℕ → Held → Held → Type 0
Wrote true at bytes old new = new ≡ pend old (range_of at bytes) (overwritten at bytes old.reads)
Wrote false at bytes old new = (new ≡ old) ⊎ TornWrite (range_of at bytes) old new

-- what a read gives is all that a stop may leave
abbrev pub settle : Held → Held
settle held = record { reads = held.reads; synced = held.reads; pending = [] }

-- a sync; one that failed has done nothing
abbrev pub Synced : Bool → Held → Held → Type 0
Synced true old new = new ≡ settle old
Synced false old new = new ≡ old
