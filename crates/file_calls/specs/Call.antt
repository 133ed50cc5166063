-- The calls that a disk makes of two files, each with what was answered.
use Rattle.std.specs.Prelude.{ℕ, Bool, List}
use Rattle.disk_trait.specs.declared.area.Area.{Area}

-- A truth value says whether the call was done. One that was refused, or interrupted, has none of the rest.
pub data Call : Type 0 where
  -- a device call begins
  began : Call
  -- this device call may write from here on so many bytes, and nowhere else
  means : Area → ℕ → ℕ → Call
  -- the length of a file
  measured : Area → Bool → ℕ → Call
  -- the bytes that a read from here on gave
  read : Area → ℕ → Bool → List ℕ → Call
  -- the bytes that a write from here on took
  written : Area → ℕ → Bool → List ℕ → Call
  -- a sync of the folder that has the file's name
  named : Area → Bool → Call
  -- a sync of what the file holds
  flushed : Area → Bool → Call
