-- A lock command in bytes, and how bytes are read as one.
use Rattle.std.specs.Prelude.{ℕ, ◌<◌, ◌^◌, ◌==◌, List, ◌++◌, length, Option, Some, None, Result, Ok, Err, if◌then◌else◌}
use Rattle.std.specs.Int.{w8, w32, w64}
use Rattle.diego_names.specs.Name.{IsName}
use Rattle.wire_fields.specs.Field.{field_number, field_name}
use Rattle.wire_fields.specs.Reading.{◌>>=◌, number_at, name_at}
use Rattle.wire_fields.specs.declared.fault.FieldFault.{FieldFault}
use Rattle.wire_fields.specs.declared.fault.FieldFault.TheVariants.{BadField}
use Rattle.locket.specs.declared.command.LockCommand.{LockCommand}
use Rattle.locket.specs.declared.command.LockOp.{LockOp}
use Rattle.locket.specs.declared.command.LockOp.TheVariants.{Acquire, Renew, Release}

-- the number of its kind
abbrev pub kind_of : LockOp → ℕ
kind_of (Acquire owner ttl) = 32
kind_of (Renew owner fence ttl) = 33
kind_of (Release owner fence) = 34

-- its fields in bytes, in their order
abbrev pub fields_of : LockOp → List ℕ
fields_of (Acquire owner ttl) = field_name owner ++ field_number w32 ttl
fields_of (Renew owner fence ttl) = field_name owner ++ (field_number w64 fence ++ field_number w32 ttl)
fields_of (Release owner fence) = field_name owner ++ field_number w64 fence

-- a command in bytes: the number of its kind, its moment, and its fields
unfoldable pub lock_spelled : LockCommand → List ℕ
lock_spelled c = field_number w8 (kind_of c.op) ++ (field_number w32 c.now.0 ++ fields_of c.op)

-- its fields have a spelling
abbrev pub FitsOp : LockOp → Type 0
FitsOp (Acquire owner ttl) = IsName owner × (ttl < 2 ^ 32)
FitsOp (Renew owner fence ttl) = IsName owner × (fence < 2 ^ 64) × (ttl < 2 ^ 32)
FitsOp (Release owner fence) = IsName owner × (fence < 2 ^ 64)

-- a command has a spelling: its name is one, and its numbers are in their ranges
pub record FitsLock (c : LockCommand) : Type 0 where
  pub now : c.now.0 < 2 ^ 32
  pub op : FitsOp c.op

-- an owner and a time to live at a place, and the place after them
abbrev pub acquire_at : List ℕ → ℕ → Result (LockOp × ℕ) FieldFault
acquire_at bytes at = do
  owner ← name_at bytes at
  ttl ← number_at w32 bytes owner.1
  Ok (Acquire owner.0 ttl.0, ttl.1)

-- a fence and a time to live
abbrev pub term_at : List ℕ → ℕ → Result ((ℕ × ℕ) × ℕ) FieldFault
term_at bytes at = do
  fence ← number_at w64 bytes at
  ttl ← number_at w32 bytes fence.1
  Ok ((fence.0, ttl.0), ttl.1)

-- an owner, a fence and a time to live
abbrev pub renew_at : List ℕ → ℕ → Result (LockOp × ℕ) FieldFault
renew_at bytes at = do
  owner ← name_at bytes at
  term ← term_at bytes owner.1
  Ok (Renew owner.0 term.0.0 term.0.1, term.1)

-- an owner and a fence
abbrev pub release_at : List ℕ → ℕ → Result (LockOp × ℕ) FieldFault
release_at bytes at = do
  owner ← name_at bytes at
  fence ← number_at w64 bytes owner.1
  Ok (Release owner.0 fence.0, fence.1)

-- the fields of an operation of this kind
abbrev pub op_at : ℕ → List ℕ → ℕ → Result (LockOp × ℕ) FieldFault
op_at kind bytes at =
    if kind == 32 then acquire_at bytes at
    else (if kind == 33 then renew_at bytes at
    else (if kind == 34 then release_at bytes at
    else Err (BadField 0)))

-- the command in front, and the place after it
unfoldable pub command_at : List ℕ → Result (LockCommand × ℕ) FieldFault
command_at bytes = do
  kind ← number_at w8 bytes 0
  now ← number_at w32 bytes kind.1
  op ← op_at kind.0 bytes now.1
  Ok (record { now = record { 0 = now.0 }; op = op.0 }, op.1)

-- what was read, where nothing is left over
abbrev pub whole : List ℕ → Result (LockCommand × ℕ) FieldFault → Option LockCommand
whole bytes (Ok read) = if read.1 == length bytes then Some read.0 else None
whole bytes (Err fault) = None

-- the command that these bytes are, if they are one
unfoldable pub lock_reading : List ℕ → Option LockCommand
lock_reading bytes = whole bytes (command_at bytes)
