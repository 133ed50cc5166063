-- What a call moves between a file and its caller.
use Rattle.std.specs.Prelude.{◌≡◌, ℕ, ◌-◌, ◌≤◌, List, length, take, drop}
use Rattle.disk_trait.specs.Held.{Held}
use Rattle.disk_trait.specs.Steps.{overwritten}

-- the first so many bytes of the room are those from here on, and none came only at the end
pub record GivesBytes (reads : List ℕ) (at count : ℕ) (room : List ℕ) : Type 0 where
  pub within : count ≤ length reads - at
  pub front : take count room ≡ take count (drop at reads)
  pub ends : count ≡ 0 → length reads ≤ at

-- reads give these bytes over the rest, and nothing else has changed
abbrev pub laid_over : Held → ℕ → List ℕ → Held
laid_over held at bytes = record held { reads = overwritten at bytes held.reads }
