-- A command in bytes, and how bytes are read as a command.
use Rattle.std.specs.Prelude.{ℕ, ◌<◌, ◌≤◌, ◌^◌, ◌&&◌, Bool, List, ◌++◌, length, nat_lt, nat_le, Result, Ok, Err, nat_eq, if◌then◌else◌}
use Rattle.std.specs.Int.{w8, w32}
use Rattle.wire_fields.specs.Field.{field_number}
use Rattle.wire_fields.specs.Reading.{◌>>=◌, number_at}
use Rattle.wire_fields.specs.declared.fault.FieldFault.{FieldFault}
use Rattle.wire_fields.specs.declared.fault.FieldFault.TheVariants as field
use Rattle.bbs_model.specs.declared.command.Command.{Command}
use Rattle.bbs_model.specs.declared.command.Op.{Op}
use Rattle.crash_backoff.specs.declared.moment.Moment.{Moment}
use Rattle.bbs_codec.specs.Ops.{said, op_at}
use Rattle.bbs_codec.specs.declared.fault.CodecFault.{CodecFault}
use Rattle.bbs_codec.specs.declared.fault.CodecFault.TheVariants.{Short, BadKind, BadField, Trailing}

-- what has a spelling: its names are names, and its numbers are in their ranges
pub record FitsCommand (c : Command) : Type 0 where
  pub now : c.now.0 < 2 ^ 32
  pub op : (said c.op).Fits

-- a command in bytes: the number of its kind, its moment, and its fields
unfoldable pub spelled : Command → List ℕ
spelled c = field_number w8 (said c.op).kind ++ (field_number w32 c.now.0 ++ (said c.op).fields)

-- a field's fault is the command's
abbrev pub fault_of : FieldFault → CodecFault
fault_of (field.Short at) = Short at
fault_of (field.BadField at) = BadField at

-- a field is read as a part of a command
abbrev pub as_part : {X : Type 0} → Result X FieldFault → Result X CodecFault
as_part (Ok x) = Ok x
as_part (Err fault) = Err (fault_of fault)

-- the last of the kinds that areas of a version may have
abbrev pub most_kind : ℕ → ℕ
most_kind version = if nat_eq version 1 then 25 else 29

-- areas of this version may have the command
abbrev pub IsReadIn : ℕ → Command → Type 0
IsReadIn version c = (said c.op).kind ≤ most_kind version

-- areas of this version may have operations of this kind
abbrev pub is_kind : ℕ → ℕ → Bool
is_kind version kind = nat_le 1 kind && nat_le kind (most_kind version)

-- the kind in front, and the place after it
unfoldable pub kind_at : ℕ → List ℕ → Result (ℕ × ℕ) CodecFault
kind_at version bytes =
    as_part (number_at w8 bytes 0) >>= λ kind. if is_kind version kind.0 then Ok kind else Err (BadKind 0)

-- an operation that was read, as a command of that moment
abbrev pub dated : Moment → Result (Op × ℕ) FieldFault → Result (Command × ℕ) CodecFault
dated now op = as_part op >>= λ o. Ok (record { now = now; op = o.0 }, o.1)

-- the command in front, and the place after it
unfoldable pub command_at : ℕ → List ℕ → Result (Command × ℕ) CodecFault
command_at version bytes = do
  kind ← kind_at version bytes
  now ← as_part (number_at w32 bytes kind.1)
  dated (record { 0 = now.0 }) (op_at kind.0 bytes now.1)

-- the command that was read, where it ends with the bytes
abbrev pub ended : List ℕ → Command × ℕ → Result Command CodecFault
ended bytes read = if nat_lt read.1 (length bytes) then Err (Trailing read.1) else Ok read.0

-- an operation that was read, as a command of that moment that ends with the bytes
abbrev pub last_command : List ℕ → Moment → Result (Op × ℕ) FieldFault → Result Command CodecFault
last_command bytes now op = dated now op >>= ended bytes

-- the command that the bytes are in an area of this version, or the first fault
unfoldable pub reading : ℕ → List ℕ → Result Command CodecFault
reading version bytes = command_at version bytes >>= ended bytes
