-- A script of lock commands: the lines of a text, up to the first that is faulty.
use Rattle.std.specs.Prelude.{ℕ, List, [], ◌∷◌, ◌++◌, nat_lt, length, Result, Ok, Err, if◌then◌else◌}
use Rattle.locket.specs.declared.command.LockCommand.{LockCommand}
use Rattle.scenario_lines.specs.declared.flaw.Flaw.{Flaw}
use Rattle.scenario_reader.specs.Faults.{◌>>=◌, flaw_at, GivesReading}
use Rattle.scenario_reader.specs.TextLines.{NumberedLine, nonblank_lines}
use Rattle.scenario_reader.specs.declared.fault.ScriptFault.{ScriptFault}
use Rattle.scenario_reader.specs.declared.fault.ScriptFault.TheVariants.{TooMuch}
use Rattle.lock_lines.specs.Commands.{command_of}
use Rattle.lock_lines.specs.declared.lock_line.LockLine.{LockLine}

-- what was read of a line by itself
abbrev pub or_flaw : ℕ → Result LockCommand Flaw → Result LockCommand ScriptFault
or_flaw line (Ok command) = Ok command
or_flaw line (Err flaw) = Err (flaw_at flaw line)

-- what stands before and an item more, which a line brings, unless there are 200,000 already
abbrev pub admit : {X : Type 0} → List X → ℕ → X → Result (List X) ScriptFault
admit before line item = if nat_lt (length before) 200000 then Ok (before ++ item ∷ []) else Err (TooMuch line)

-- the lines before and what this one says, or the first of its faults: by itself, and then beside those before it
abbrev pub with_line : List LockLine → NumberedLine → Result (List LockLine) ScriptFault
with_line before line = do
  command ← or_flaw line.number (command_of line.text)
  admit before line.number (record { line = line.number; command = command })

-- the lines before and what these say behind them, or the fault of the first that is faulty
abbrev pub read_from : List LockLine → List NumberedLine → Result (List LockLine) ScriptFault
read_from before [] = Ok before
read_from before (line ∷ lines) = with_line before line >>= λ next. read_from next lines

-- the lines of the script that the bytes are, or the fault of the first faulty line
unfoldable pub lock_lines_of : List ℕ → Result (List LockLine) ScriptFault
lock_lines_of bytes = read_from [] (nonblank_lines bytes)

-- an answer, and what it left: that is what was to come, or the answer is the fault, unless memory ran out
abbrev pub Leads : {X : Type 0} → Result (Unit {0}) ScriptFault → X → Result X ScriptFault → Type 0
Leads result left next = GivesReading (result >>= λ done. Ok left) next
