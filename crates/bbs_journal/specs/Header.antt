-- What the first bytes of an area say of it.
use Rattle.std.specs.Prelude.{◌≡◌, ◌⊎◌, ℕ, ◌+◌, ◌==◌, nat_eq, nat_lt, Option, Some, None, List, [], ◌∷◌, ◌++◌, length, take, drop, if◌then◌else◌}
use Rattle.std.specs.Int.{w16, w64, from_be_bytes}
use Rattle.std.specs.List.{starts_with}
use Rattle.wire_fields.specs.Field.{field_number}
use Rattle.bbs_journal.specs.declared.header.Header.{Header}
use Rattle.bbs_journal.specs.declared.header.Header.TheVariants.{Closed, Foreign, Cut, Open}
use Rattle.bbs_journal.specs.declared.other_gate.OtherGate.{OtherGate}
use Rattle.bbs_journal.specs.declared.other_gate.OtherGate.TheVariants.{Shut, Loose}

-- the format versions that are read
abbrev pub IsVersion : ℕ → Type 0
IsVersion version = (version ≡ 1) ⊎ (version ≡ 2)

-- the version of every area that is written
abbrev pub newest : ℕ
newest = 2

-- DIEGOBBS
abbrev pub magic : List ℕ
magic = 68 ∷ 73 ∷ 69 ∷ 71 ∷ 79 ∷ 66 ∷ 66 ∷ 83 ∷ []

-- the magic, and the version in two bytes
abbrev pub mark : ℕ → List ℕ
mark version = magic ++ field_number w16 version

-- the version that stands behind the gate, if it is one that is read
unfoldable pub version_of : List ℕ → Option ℕ
version_of bytes =
    if starts_with nat_eq bytes (mark 1) then Some 1
    else (if starts_with nat_eq bytes (mark 2) then Some 2 else None)

-- the bytes of an area that are looked at before its head is read
abbrev pub front : List ℕ → List ℕ
front bytes = take 31 bytes

-- the header whose gate is open and is followed by these bytes, with the mark of this version if one is read
abbrev pub by_version : Option ℕ → List ℕ → Header
by_version None bytes = Foreign
by_version (Some version) bytes =
    if nat_lt (length bytes) 18 then Cut (1 + length bytes)
    else Open version (from_be_bytes w64 (take 8 (drop 10 bytes)))

-- the header whose gate is open and is followed by these bytes
unfoldable pub behind_gate : List ℕ → Header
behind_gate bytes = if length bytes == 0 then Closed Loose else by_version (version_of bytes) bytes

-- the header of an area with this front
abbrev pub header_of : List ℕ → Header
header_of [] = Closed Loose
header_of (gate ∷ bytes) = if gate == 0 then Closed Shut else behind_gate bytes

-- what a header tells of its gate
abbrev pub gate_of : Header → OtherGate
gate_of (Closed gate) = gate
gate_of Foreign = Loose
gate_of (Cut at) = Loose
gate_of (Open version generation) = Loose
