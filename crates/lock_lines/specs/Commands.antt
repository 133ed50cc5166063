-- What a line asks. Its owner is read last, so that each fault of the shape is found before one of a name.
use Rattle.std.specs.Prelude.{ℕ, List, codes, Result, Ok, Err, if◌then◌else◌}
use Rattle.serde_json.specs.Data.{Data}
use Rattle.locket.specs.declared.command.LockCommand.{LockCommand}
use Rattle.locket.specs.declared.command.LockOp.{LockOp}
use Rattle.locket.specs.declared.command.LockOp.TheVariants as op
use Rattle.scenario_lines.specs.Flaws.{◌>>=◌, json_said, or_shape}
use Rattle.scenario_lines.specs.declared.flaw.Flaw.{Flaw}
use Rattle.scenario_lines.specs.declared.flaw.Flaw.TheVariants.{BadShape}
use Rattle.lock_lines.specs.Members.{long_number_in, name_in, number_in}
use Rattle.lock_lines.specs.Operations.{has_only, operation_in}
use Rattle.lock_lines.specs.declared.operation.Operation.{Operation}
use Rattle.lock_lines.specs.declared.operation.Operation.TheVariants.{Acquire, Renew, Release}

-- the owner wants the lease for so long
unfoldable pub acquire_in : Data → Result LockOp Flaw
acquire_in d = do
  ttl ← number_in (codes "ttl") d
  owner ← name_in (codes "owner") d
  Ok (op.Acquire owner ttl)

-- the holder of the lease with this fence wants it for so long
unfoldable pub renew_in : Data → Result LockOp Flaw
renew_in d = do
  fence ← long_number_in (codes "fence") d
  ttl ← number_in (codes "ttl") d
  owner ← name_in (codes "owner") d
  Ok (op.Renew owner fence ttl)

-- the holder of the lease with this fence gives it back
unfoldable pub release_in : Data → Result LockOp Flaw
release_in d = do
  fence ← long_number_in (codes "fence") d
  owner ← name_in (codes "owner") d
  Ok (op.Release owner fence)

-- what a line with this operation asks
abbrev pub op_in : Operation → Data → Result LockOp Flaw
op_in Acquire d = acquire_in d
op_in Renew d = renew_in d
op_in Release d = release_in d

-- what it asks, with its moment
unfoldable pub command_in : Operation → Data → Result LockCommand Flaw
command_in operation d = do
  at ← number_in (codes "at") d
  asked ← op_in operation d
  Ok (record { now = record { 0 = at }; op = asked })

-- what a value asks as a line
unfoldable pub command_as : Data → Result LockCommand Flaw
command_as d = do
  operation ← or_shape (operation_in d)
  if has_only operation d then command_in operation d else Err BadShape

-- what the bytes of a line ask: first as JSON, then by its shape, then by its owner's name
unfoldable pub command_of : List ℕ → Result LockCommand Flaw
command_of bytes = json_said bytes >>= command_as
