-- What goes over a wire from a round to a cell's rep.
use Rattle.std.specs.Prelude.{◌≡◌, ℕ, Bool, not, List, Option}
use Rattle.byte_ports.specs.Cause.{HasCause}
use Rattle.cell_rep.specs.Wires.{WireEnds, Delivers, is_delivery_lost}
use Rattle.cell_rep.specs.declared.wire.CallKind.{CallKind}
use Rattle.cell_rep.specs.declared.wire.Delivery.{Delivery}

-- what a wire tells of its next ends, if it does, and how many it has lost
pub record WireAt : Type 0 where
  pub ends : Option WireEnds
  pub losses : ℕ

-- these two
abbrev pub wire_at : Option WireEnds → ℕ → WireAt
wire_at ends losses = record { ends = ends; losses = losses }

-- one delivery to a cell's rep, which reached it or was lost
pub record IsSent (cell : List ℕ) (kind : CallKind) (reached : Bool) (s s' : WireAt) : Type 0 where
  pub end : Delivery
  pub is : reached ≡ not (is_delivery_lost end)
  pub ends : Delivers s.ends s'.ends (record { actor = cell; kind = kind }) end
  pub cause : HasCause (is_delivery_lost end) s.losses s'.losses
