-- The ways in which the program ends, each with its status and its fault line.
use Rattle.std.specs.Prelude.{ℕ, List, [], ◌∷◌, ◌++◌, codes}
use Rattle.std.specs.Fmt.{decimal}
use Rattle.dump_lines.specs.declared.fault.LineFault.TheVariants.{BadJson, BadShape, BadName, BadTags, BadAmounts}
use Rattle.dump_reader.specs.Faults.{FaultAt}
use Rattle.dump_reader.specs.declared.fault.DumpFault.{DumpFault}
use Rattle.dump_reader.specs.declared.fault.DumpFault.TheVariants.{Line, Twice, TooMuch, Unknown}
use Rattle.headroom_engine.specs.declared.ending.Ending.{Ending}
use Rattle.headroom_engine.specs.declared.ending.Ending.TheVariants as ending

-- the program's status
abbrev pub status_of : Ending → ℕ
status_of ending.Room = 0
status_of ending.Usage = 1
status_of (ending.Faulty fault line) = 2
status_of ending.Read = 3
status_of ending.Unwritten = 4
status_of ending.OutOfMemory = 7
status_of ending.TooLong = 8
status_of ending.NoRoom = 10

-- the word of a fault
abbrev pub fault_word : DumpFault → List ℕ
fault_word (Line BadJson) = codes "bad json"
fault_word (Line BadShape) = codes "bad shape"
fault_word (Line BadName) = codes "bad name"
fault_word (Line BadTags) = codes "bad tags"
fault_word (Line BadAmounts) = codes "bad amounts"
fault_word Twice = codes "twice"
fault_word TooMuch = codes "too much"
fault_word Unknown = codes "unknown"

-- the line that tells a fault and where it stands
abbrev pub fault_line : FaultAt → List ℕ
fault_line told =
    codes "{\"fault\":\"" ++ (fault_word told.fault ++ (codes "\",\"line\":" ++ (decimal told.line ++ codes "}\n")))

-- the line that tells a fault which has no place
abbrev pub constant_line : Ending → List ℕ
constant_line ending.Usage = codes "{\"fault\":\"usage\"}" ++ 10 ∷ []
constant_line ending.Read = codes "{\"fault\":\"read\"}" ++ 10 ∷ []
constant_line ending.TooLong = codes "{\"fault\":\"too long\"}" ++ 10 ∷ []
constant_line ending.Room = []
constant_line (ending.Faulty fault line) = []
constant_line ending.Unwritten = []
constant_line ending.OutOfMemory = []
constant_line ending.NoRoom = []
