-- What the source and the sink tell, and what printing does to the sink.
use Rattle.std.specs.Prelude.{◌≡◌, ◌⊎◌, ℕ, true, List, Option}
use Rattle.std.specs.Io.KnownBytes.{Appends}
use Rattle.byte_ports.specs.Cause.{HasCause}
use Rattle.byte_ports.specs.Content.{HoldsPart}

-- what is told of the source and the sink at one moment
pub record Ports : Type 0 where
  pub left : Option (List ℕ)
  pub read_faults : ℕ
  pub held : Option (List ℕ)
  pub write_faults : ℕ

-- the ports, from what the source tells and then what the sink tells
abbrev pub ports_of : Option (List ℕ) → ℕ → Option (List ℕ) → ℕ → Ports
ports_of left read_faults held write_faults = record {
  left = left;
  read_faults = read_faults;
  held = held;
  write_faults = write_faults;
}

-- the whole text was put into a sink, which didn't fail
pub record PutsWhole (text : List ℕ) (held held' : Option (List ℕ)) (faults faults' : ℕ) : Type 0 where
  pub all : Appends held held' text
  pub no_fault : faults' ≡ faults

-- a first part of the text was put into a sink, which failed then
pub record PutsPart (text : List ℕ) (held held' : Option (List ℕ)) (faults faults' : ℕ) : Type 0 where
  pub part : HoldsPart held held' text
  pub fault : HasCause true faults faults'

-- the text was put into a sink, as far as that went
abbrev pub Puts : List ℕ → Option (List ℕ) → Option (List ℕ) → ℕ → ℕ → Type 0
Puts text held held' faults faults' = PutsWhole text held held' faults faults' ⊎ PutsPart text held held' faults faults'

-- nothing was put into a sink, which didn't fail
abbrev pub PutsNothing : Option (List ℕ) → Option (List ℕ) → ℕ → ℕ → Type 0
PutsNothing held held' faults faults' = (held' ≡ held) × (faults' ≡ faults)

-- the same of all ports: the whole text, a first part of it, one of the two, and nothing
abbrev pub PrintsWhole : List ℕ → Ports → Ports → Type 0
PrintsWhole text v w = PutsWhole text v.held w.held v.write_faults w.write_faults

abbrev pub PrintsPart : List ℕ → Ports → Ports → Type 0
PrintsPart text v w = PutsPart text v.held w.held v.write_faults w.write_faults

abbrev pub Prints : List ℕ → Ports → Ports → Type 0
Prints text v w = Puts text v.held w.held v.write_faults w.write_faults

abbrev pub PrintsNothing : Ports → Ports → Type 0
PrintsNothing v w = PutsNothing v.held w.held v.write_faults w.write_faults

-- nothing was taken from the source, which didn't fail
abbrev pub IsUnread : Ports → Ports → Type 0
IsUnread v w = (w.left ≡ v.left) × (w.read_faults ≡ v.read_faults)
