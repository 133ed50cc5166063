-- What the sink and the disk tell, and what printing does to the sink.
use Rattle.std.specs.Prelude.{◌≡◌, ℕ, Bool, true, not, List, Option, Some, None}
use Rattle.std.specs.Io.KnownBytes.{Appends}
use Rattle.byte_ports.specs.Cause.{HasCause}
use Rattle.byte_ports.specs.Content.{HoldsFront}
use Rattle.disk_trait.specs.Past.{Past}

-- what is told of the sink and the disk at one moment
pub record Ports : Type 0 where
  pub held : Option (List ℕ)
  pub write_faults : ℕ
  pub told : Option Past
  pub disk_faults : ℕ
  pub clock : ℕ

-- the ports, from what the sink tells and then what the disk tells
abbrev pub ports_of : Option (List ℕ) → ℕ → Option Past → ℕ → ℕ → Ports
ports_of held write_faults told disk_faults clock = record {
  held = held;
  write_faults = write_faults;
  told = told;
  disk_faults = disk_faults;
  clock = clock;
}

-- the disk tells its past
abbrev pub IsTold : Option Past → Type 0
IsTold None = ⊥
IsTold (Some p) = Unit {0}

-- a text was put into a sink that held this, whole or up to a fault
pub record PrintsTo (whole : Bool) (text : List ℕ) (held held' : Option (List ℕ)) (faults faults' : ℕ) : Type 0 where
  pub cause : HasCause (not whole) faults faults'
  pub front : HoldsFront held held' text
  pub all : whole ≡ true → Appends held held' text

-- the same, of all ports
abbrev pub Prints : Bool → List ℕ → Ports → Ports → Type 0
Prints whole text v w = PrintsTo whole text v.held w.held v.write_faults w.write_faults
