-- What the members of a line say that are no names.
use Rattle.std.specs.Prelude.{ℕ, Bool, false, Option, Some, None, option_and_then, Result, Ok, if◌then◌else◌}
use Rattle.serde_json.specs.Data.{Data}
use Rattle.serde_json.specs.Find.{as_bool}
use Rattle.cell_records.specs.declared.amounts.Amounts.{Amounts}
use Rattle.diego_names.specs.declared.key.Key.{Key}
use Rattle.scenario_lines.specs.Flaws.{◌>>=◌, or_shape}
use Rattle.scenario_lines.specs.Kinds.{loss_of, number_said, port_of, times_of}
use Rattle.scenario_lines.specs.Members.{has, said_for}
use Rattle.scenario_lines.specs.Names.{name_given}
use Rattle.scenario_lines.specs.declared.act.Loss.{Loss}
use Rattle.scenario_lines.specs.declared.flaw.Flaw.{Flaw}
use Rattle.scenario_lines.specs.declared.member.Member.{Member}
use Rattle.scenario_lines.specs.declared.member.Member.TheVariants as member

-- the number of a member
unfoldable pub number_given : Member → Data → Result ℕ Flaw
number_given m d = or_shape (option_and_then number_said (said_for m d))

-- the port, which is 8080 where none is named
unfoldable pub port_in : Data → Result ℕ Flaw
port_in d = if has member.Port d then or_shape (option_and_then port_of (said_for member.Port d)) else Ok 8080

-- for how many seconds a domain is fresh: for ever where the line doesn't say
unfoldable pub ttl_in : Data → Result ℕ Flaw
ttl_in d = if has member.Ttl d then number_given member.Ttl d else Ok 0

-- how often the line is run: once where it doesn't say
unfoldable pub times_in : Data → Result ℕ Flaw
times_in d = if has member.Times d then or_shape (option_and_then times_of (said_for member.Times d)) else Ok 1

-- what is lost of the first call of the line, if anything
unfoldable pub lost_in : Data → Result (Option Loss) Flaw
lost_in d =
    if has member.Lost d then (or_shape (option_and_then loss_of (said_for member.Lost d)) >>= λ loss. Ok (Some loss))
    else Ok None

-- whether a task failed: it didn't where the line doesn't say
unfoldable pub failed_in : Data → Result Bool Flaw
failed_in d = if has member.Failed d then or_shape (option_and_then as_bool (said_for member.Failed d)) else Ok false

-- an instance of a process
unfoldable pub key_said : Data → Result Key Flaw
key_said d = do
  process ← name_given member.Process d
  index ← number_given member.Index d
  Ok (record { process = process; index = index })

-- all that a cell has
unfoldable pub totals_in : Data → Result Amounts Flaw
totals_in d = do
  memory ← number_given member.Memory d
  disk ← number_given member.Disk d
  containers ← number_given member.Containers d
  Ok (record { memory = memory; disk = disk; containers = containers })
