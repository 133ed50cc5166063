-- One area at one moment, and what a stop at that moment may leave of it.
use Rattle.std.specs.Prelude.{◌≡◌, ℕ, ◌+◌, ◌<◌, ◌≤◌, max, List, [], ◌∷◌, length, take, drop, All}

-- each is a byte
abbrev pub AreBytes : List ℕ → Type 0
AreBytes bytes = All (λ b. b < 256) bytes

-- the range of bytes that a write named
pub record Range : Type 0 where
  pub from : ℕ
  pub len : ℕ

-- what a read gives, what it gave at the last successful sync, and the ranges written since, newest first
pub record Held : Type 0 where
  pub reads : List ℕ
  pub synced : List ℕ
  pub pending : List Range

-- anything in the range, which may also make the list longer, and the same elsewhere
pub record Torn (range : Range) (old new : List ℕ) : Type 0 where
  pub before : take range.from new ≡ take range.from old
  pub after : drop (range.from + range.len) new ≡ drop (range.from + range.len) old
  pub no_shorter : length old ≤ length new
  pub no_longer : length new ≤ max (length old) (range.from + range.len)

-- each pending range has been torn in its turn, from what was synced on
abbrev pub MayLeave : List ℕ → List Range → List ℕ → Type 0
MayLeave synced [] left = left ≡ synced
MayLeave synced (range ∷ ranges) left = (middle : List ℕ) × MayLeave synced ranges middle × AreBytes middle × Torn range middle left

-- what a stop may leave of the area
pub record Leaves (held : Held) (left : List ℕ) : Type 0 where
  pub torn : MayLeave held.synced held.pending left
  pub bytes : AreBytes left

-- a stop leaves nothing but what a read gives
abbrev pub IsSettledArea : Held → Type 0
IsSettledArea held = (left : List ℕ) → Leaves held left → left ≡ held.reads

-- what a read gives has P, and so has whatever a stop may leave
pub record Has (P : List ℕ → Type 0) (held : Held) : Type 0 where
  pub reads : P held.reads
  pub leaves : (left : List ℕ) → Leaves held left → P left
