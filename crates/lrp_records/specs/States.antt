-- What a state is called, and who has a row in it.
use Rattle.std.specs.Prelude.{ℕ, ◌==◌, ◌&&◌, Bool, List, Option, Some, None}
use Rattle.diego_names.specs.declared.instance.Instance.{Instance}
use Rattle.diego_names.specs.declared.state_name.StateName.{StateName}
use Rattle.diego_names.specs.declared.state_name.StateName.TheVariants as names
use Rattle.lrp_records.specs.declared.state.LrpState.{LrpState}
use Rattle.lrp_records.specs.declared.state.LrpState.TheVariants.{Unclaimed, Claimed, Running, Crashed}

-- the name of a state
abbrev pub name_of : LrpState → StateName
name_of Unclaimed = names.Unclaimed
name_of (Claimed instance cell) = names.Claimed
name_of (Running instance cell) = names.Running
name_of Crashed = names.Crashed

-- the container that has a row in that state
abbrev pub holder_of : LrpState → Option Instance
holder_of Unclaimed = None
holder_of (Claimed instance cell) = Some instance
holder_of (Running instance cell) = Some instance
holder_of Crashed = None

-- the cell on which a container has a row in that state
abbrev pub cell_of : LrpState → Option (List ℕ)
cell_of Unclaimed = None
cell_of (Claimed instance cell) = Some cell
cell_of (Running instance cell) = Some cell
cell_of Crashed = None

-- the two are one container
abbrev pub is_same_instance : Instance → Instance → Bool
is_same_instance a b = a.epoch == b.epoch && a.number == b.number
