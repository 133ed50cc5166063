-- A wire in memory that has delivered nothing.
use Rattle.std.specs.Prelude.{◌≡◌, ℕ, List}
use Rattle.cell_rep.specs.declared.memory_wire.MemoryWire.{MemoryWire}
use Rattle.cell_rep.specs.declared.wire.Delivery.{Delivery}

-- its ends are those listed, the first delivery has the number 1, and none was lost
pub record IsNewWire (listed : List (ℕ × Delivery)) (w : MemoryWire) : Type 0 where
  pub listed_is : w.listed.items ≡ listed
  pub made : w.made ≡ 0
  pub losses : w.losses ≡ 0
