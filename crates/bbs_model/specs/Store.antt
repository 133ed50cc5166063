-- What a store of rows has room for.
use Rattle.std.specs.Prelude.{◌≡◌, ℕ, ◌+◌, ◌<◌, ◌≤◌, Option, None, IsSome}

-- there is room for a row: one place, if none stands at its key
abbrev pub HasRoom : {X : Type 0} → Option X → ℕ → Type 0
HasRoom known spare = known ≡ None → 0 < spare

-- a put takes at most one place of the room, and none where it takes the place of a row
pub record TakesRoom {X : Type 0} (known : Option X) (old new : ℕ) : Type 0 where
  pub taken : old ≤ new + 1
  pub kept : IsSome known → old ≤ new
