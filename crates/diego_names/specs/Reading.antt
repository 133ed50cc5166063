-- Reading bytes as a name, with the first fault.
use Rattle.std.specs.Prelude.{ℕ, List, length, ◌==◌, nat_lt, Result, Ok, Err, Option, Some, None, if◌then◌else◌}
use Rattle.diego_names.specs.Name.{first_bad_byte}
use Rattle.diego_names.specs.declared.name.NameFault.{NameFault}
use Rattle.diego_names.specs.declared.name.NameFault.TheVariants.{Empty, TooLong, BadByte}

-- the bytes, unless one of them is bad
abbrev pub unless_bad : List ℕ → Option ℕ → Result (List ℕ) NameFault
unless_bad bytes None = Ok bytes
unless_bad bytes (Some at) = Err (BadByte at)

-- the bytes as a name, or why they are none
abbrev pub name_reading : List ℕ → Result (List ℕ) NameFault
name_reading bytes =
    if length bytes == 0 then Err Empty
    else (if nat_lt 80 (length bytes) then Err (TooLong (length bytes)) else unless_bad bytes (first_bad_byte bytes))
