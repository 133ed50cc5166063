-- How the reading of a whole source ends.
use Rattle.std.specs.Prelude.{Bool, true, false, Result, Ok, Err}
use Rattle.byte_ports.specs.declared.reading.ReadFault.{ReadFault}
use Rattle.byte_ports.specs.declared.reading.ReadFault.TheVariants.{Failed, TooLong, OutOfMemory}

-- the source answered a fault
abbrev pub is_failed : {T : Type 0} → Result T ReadFault → Bool
is_failed (Err Failed) = true
is_failed (Err TooLong) = false
is_failed (Err OutOfMemory) = false
is_failed (Ok bytes) = false
