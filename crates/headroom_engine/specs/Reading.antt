-- What the source gives: the whole of its bytes, which are a dump or have a first fault.
use Rattle.std.specs.Prelude.{◌≡◌, ℕ, ◌+◌, ◌<◌, ◌≤◌, Bool, true, false, List, length, Option, Some, Result, Ok, Err}
use Rattle.std.specs.Io.KnownBytes.{Consumes, IsAtEnd}
use Rattle.byte_ports.specs.Content.{Lost, LostAtMost}
use Rattle.dump_reader.specs.Accepted.{dump_of}
use Rattle.dump_reader.specs.Faults.{FaultAt, at}
use Rattle.dump_reader.specs.declared.dump.Dump.{Dump}
use Rattle.headroom_engine.specs.declared.ending.Ending.{Ending}
use Rattle.headroom_engine.specs.declared.ending.Ending.TheVariants as ending

-- the most bytes that a dump and its questions may have
abbrev pub limit : ℕ
limit = 67108864

-- the source was read whole, and the dump that its bytes are, or their first fault, is this
pub record ReadsWhole (said : Result Dump FaultAt) (left left' : Option (List ℕ)) : Type 0 where
  pub bytes : List ℕ
  pub consumes : Consumes left left' bytes
  pub end : IsAtEnd left'
  pub few : length bytes ≤ limit
  pub says : dump_of bytes ≡ said

-- the source tells these bytes, and they aren't too many
pub record TellsFew (bytes : List ℕ) (left : Option (List ℕ)) : Type 0 where
  pub left_is : left ≡ Some bytes
  pub few : length bytes ≤ limit

-- the source tells these bytes, and they are too many
pub record TellsMany (bytes : List ℕ) (left : Option (List ℕ)) : Type 0 where
  pub left_is : left ≡ Some bytes
  pub many : limit < length bytes

-- what was read of a source, by the answer
abbrev pub ReadsDump : Result Dump Ending → Option (List ℕ) → Option (List ℕ) → Type 0
ReadsDump (Ok dump) left left' = ReadsWhole (Ok dump) left left'
ReadsDump (Err (ending.Faulty fault line)) left left' = ReadsWhole (Err (at fault line)) left left'
ReadsDump (Err ending.Read) left left' = LostAtMost left left' limit
ReadsDump (Err ending.OutOfMemory) left left' = LostAtMost left left' limit
ReadsDump (Err ending.TooLong) left left' = Lost left left' (limit + 1)
ReadsDump (Err other) left left' = ⊥

-- the source failed
abbrev pub is_read : Ending → Bool
is_read ending.Read = true
is_read other = false

-- the same, of what was read
abbrev pub is_unread : Result Dump Ending → Bool
is_unread (Ok dump) = false
is_unread (Err how) = is_read how
