-- The ways in which the program ends, each with its status and its line.
use Rattle.std.specs.Prelude.{◌≡◌, ◌⊎◌, ℕ, List, [], ◌∷◌, ◌++◌, codes}
use Rattle.std.specs.Fmt.{decimal}
use Rattle.disk_trait.specs.declared.area.Area.{Area}
use Rattle.disk_trait.specs.declared.area.Area.TheVariants.{A, B}
use Rattle.scenario_reader.specs.declared.fault.ScriptFault.{ScriptFault}
use Rattle.scenario_reader.specs.declared.fault.ScriptFault.TheVariants.{BadJson, BadShape, BadName, BadOrder, TooMuch, OutOfMemory}
use Rattle.program_ends.specs.declared.ending.Ending.{Ending}
use Rattle.program_ends.specs.declared.ending.Ending.TheVariants as ending

-- the program's status
abbrev pub status_of : Ending → ℕ
status_of ending.Done = 0
status_of ending.Usage = 1
status_of (ending.Script fault) = 2
status_of ending.Read = 3
status_of ending.Unwritten = 4
status_of ending.Unopened = 5
status_of ending.Doubt = 5
status_of (ending.NotABoard area) = 6
status_of (ending.Damaged area at) = 6
status_of ending.OutOfMemory = 7
status_of ending.TooLong = 8
status_of ending.Exists = 9

-- a line, and its newline
abbrev pub with_newline : List ℕ → List ℕ
with_newline line = line ++ 10 ∷ []

-- the word of an area
abbrev pub area_word : Area → List ℕ
area_word A = codes "a"
area_word B = codes "b"

-- the line of an area that isn't one of a board
abbrev pub no_board_line : Area → List ℕ
no_board_line A = with_newline (codes "{\"area\":\"a\",\"at\":0,\"fault\":\"not a board\"}")
no_board_line B = with_newline (codes "{\"area\":\"b\",\"at\":0,\"fault\":\"not a board\"}")

-- the line of a defect at a place of an area
abbrev pub damaged_line : Area → ℕ → List ℕ
damaged_line area at =
    codes "{\"area\":\"" ++ (area_word area ++ (codes "\",\"at\":" ++ (decimal at ++ codes ",\"fault\":\"damaged\"}\n")))

-- the line of a fault in a line of a script
abbrev pub numbered_line : List ℕ → ℕ → List ℕ
numbered_line word line =
    codes "{\"fault\":\"" ++ (word ++ (codes "\",\"line\":" ++ (decimal line ++ codes "}\n")))

-- the line that tells why bytes are no script: its first fault, and where that stands; want of memory is no fault of theirs
abbrev pub script_line : ScriptFault → List ℕ
script_line (BadJson line) = numbered_line (codes "bad json") line
script_line (BadShape line) = numbered_line (codes "bad shape") line
script_line (BadName line) = numbered_line (codes "bad name") line
script_line (BadOrder line) = numbered_line (codes "bad order") line
script_line (TooMuch line) = numbered_line (codes "too much") line
script_line OutOfMemory = []

-- the line that a fault is told by, where it tells no place
abbrev pub constant_line : Ending → List ℕ
constant_line ending.Usage = with_newline (codes "{\"fault\":\"usage\"}")
constant_line (ending.Script fault) = []
constant_line ending.Read = with_newline (codes "{\"fault\":\"read\"}")
constant_line ending.Unopened = with_newline (codes "{\"fault\":\"disk\"}")
constant_line (ending.NotABoard area) = no_board_line area
constant_line (ending.Damaged area at) = []
constant_line ending.TooLong = with_newline (codes "{\"fault\":\"too long\"}")
constant_line ending.Exists = with_newline (codes "{\"fault\":\"exists\"}")
constant_line ending.Done = []
constant_line ending.Unwritten = []
constant_line ending.Doubt = []
constant_line ending.OutOfMemory = []

-- the line that a fault is told by
abbrev pub line_of : Ending → List ℕ
line_of (ending.Script fault) = script_line fault
line_of (ending.Damaged area at) = damaged_line area at
line_of how = constant_line how

-- how it ends that ends before a board is opened: a line that tells a place may want memory
abbrev pub EndsAs : Ending → Ending → Type 0
EndsAs (ending.Script fault) how = (how ≡ ending.Script fault) ⊎ (how ≡ ending.OutOfMemory)
EndsAs (ending.Damaged area at) how = (how ≡ ending.Damaged area at) ⊎ (how ≡ ending.OutOfMemory)
EndsAs other how = how ≡ other
