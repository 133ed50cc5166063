-- What the program reads: the whole of its source, whose bytes are what was asked for or have a first fault.
use Rattle.std.specs.Prelude.{◌≡◌, ℕ, ◌+◌, ◌<◌, ◌≤◌, Bool, true, false, List, length, Option, Some, Result, Ok, Err}
use Rattle.std.specs.Io.KnownBytes.{Consumes, IsAtEnd}
use Rattle.std.specs.declared.vec.Vec.{Vec}
use Rattle.byte_ports.specs.Content.{Lost, LostAtMost}
use Rattle.program_ends.specs.declared.ending.Ending.{Ending}
use Rattle.program_ends.specs.declared.ending.Ending.TheVariants as ending
use Rattle.scenario_reader.specs.declared.fault.ScriptFault.{ScriptFault}
use Rattle.scenario_reader.specs.declared.fault.ScriptFault.TheVariants.{BadJson, BadShape, BadName, BadOrder, TooMuch, OutOfMemory}

-- the most bytes that a source may have
abbrev pub limit : ℕ
limit = 16777216

-- all that was left of the source are these bytes, and they aren't too many
pub record ReadsBytes (bytes : List ℕ) (left left' : Option (List ℕ)) : Type 0 where
  pub consumes : Consumes left left' bytes
  pub end : IsAtEnd left'
  pub few : length bytes ≤ limit

-- the source was read whole, and what its bytes are, read so, or their first fault, is this
pub record ReadsWhole {X : Type 0} (reading : List ℕ → Result X ScriptFault) (said : Result X ScriptFault)
    (left left' : Option (List ℕ)) : Type 0 where
  pub bytes : List ℕ
  pub consumes : Consumes left left' bytes
  pub end : IsAtEnd left'
  pub few : length bytes ≤ limit
  pub says : reading bytes ≡ said

-- the source tells bytes that aren't too many, and what they are, read so, or their first fault, is this
pub record TellsAs {X : Type 0} (reading : List ℕ → Result X ScriptFault) (said : Result X ScriptFault)
    (left : Option (List ℕ)) : Type 0 where
  pub bytes : List ℕ
  pub left_is : left ≡ Some bytes
  pub few : length bytes ≤ limit
  pub says : reading bytes ≡ said

-- the source tells more bytes than it may have
pub record TellsTooMuch (left : Option (List ℕ)) : Type 0 where
  pub bytes : List ℕ
  pub left_is : left ≡ Some bytes
  pub many : limit < length bytes

-- how the program ends whose bytes have this fault: want of memory is none of theirs
abbrev pub script_ending : ScriptFault → Ending
script_ending (BadJson line) = ending.Script (BadJson line)
script_ending (BadShape line) = ending.Script (BadShape line)
script_ending (BadName line) = ending.Script (BadName line)
script_ending (BadOrder line) = ending.Script (BadOrder line)
script_ending (TooMuch line) = ending.Script (TooMuch line)
script_ending OutOfMemory = ending.OutOfMemory

-- what bytes are, or how the program ends for their fault
abbrev pub or_ending : {X : Type 0} → Result X ScriptFault → Result X Ending
or_ending (Ok x) = Ok x
or_ending (Err fault) = Err (script_ending fault)

-- what was taken of a source that wasn't read whole, by how the program ends for that
abbrev pub LeavesUnread : Ending → Option (List ℕ) → Option (List ℕ) → Type 0
LeavesUnread ending.Read left left' = LostAtMost left left' limit
LeavesUnread ending.OutOfMemory left left' = LostAtMost left left' limit
LeavesUnread ending.TooLong left left' = Lost left left' (limit + 1)
LeavesUnread other left left' = ⊥

-- what was taken of a source, by the answer
abbrev pub TakesBytes : {Z : Type 0} → Result (Vec ℕ Z) Ending → Option (List ℕ) → Option (List ℕ) → Type 0
TakesBytes (Ok bytes) left left' = ReadsBytes bytes.items left left'
TakesBytes (Err how) left left' = LeavesUnread how left left'

-- what was read so of a source, by the answer
abbrev pub ReadsAs : {X : Type 0} → (List ℕ → Result X ScriptFault) → Result X Ending
    → Option (List ℕ) → Option (List ℕ) → Type 0
ReadsAs reading (Ok x) left left' = ReadsWhole reading (Ok x) left left'
ReadsAs reading (Err (ending.Script fault)) left left' = ReadsWhole reading (Err fault) left left'
ReadsAs reading (Err how) left left' = LeavesUnread how left left'

-- the source failed
abbrev pub is_read : Ending → Bool
is_read ending.Read = true
is_read other = false

-- the same, of what was read
abbrev pub is_unread : {X : Type 0} → Result X Ending → Bool
is_unread (Ok x) = false
is_unread (Err how) = is_read how
