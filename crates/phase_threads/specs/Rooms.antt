-- Memory that was taken before it is used.
use Rattle.std.specs.Prelude.{◌≡◌, ℕ, ◌≤◌, [], vec_capacity}
use Rattle.std.specs.declared.vec.Vec.{Vec}

-- a list of nothing, with room for so many
pub record HasEmptyRoom {A Z : Type 0} (count : ℕ) (v : Vec A Z) : Type 0 where
  pub none : v.items ≡ []
  pub room : count ≤ vec_capacity v
