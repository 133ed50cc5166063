-- A scenario: the lines of a text, up to the first that is faulty.
use Rattle.std.specs.Prelude.{ℕ, List, [], ◌∷◌, ◌++◌, Result, Ok, Err, if◌then◌else◌}
use Rattle.scenario_reader.specs.Faults.{◌>>=◌, said_on}
use Rattle.scenario_reader.specs.Order.{is_out_of_order, is_too_much}
use Rattle.scenario_reader.specs.Phases.{script_said}
use Rattle.scenario_reader.specs.Said.{SaidLine}
use Rattle.scenario_reader.specs.TextLines.{NumberedLine, nonblank_lines}
use Rattle.scenario_reader.specs.declared.fault.ScriptFault.{ScriptFault}
use Rattle.scenario_reader.specs.declared.fault.ScriptFault.TheVariants.{BadOrder, TooMuch}
use Rattle.scenario_lines.specs.declared.script.Script.{Script}

-- a line beside those before it: it may stand there, and it isn't the one by which there is too much
abbrev pub admit : List SaidLine → SaidLine → Result SaidLine ScriptFault
admit before said =
    if is_out_of_order before said then Err (BadOrder said.line)
    else (if is_too_much (before ++ said ∷ []) then Err (TooMuch said.line) else Ok said)

-- what a line says, or the first of its faults: by itself, and then beside the lines before it
abbrev pub line_verdict : List SaidLine → NumberedLine → Result SaidLine ScriptFault
line_verdict before line = said_on line >>= λ content. admit before (record { line = line.number; content = content })

-- the lines before, and what these say behind them, or the fault of the first that is faulty
abbrev pub accepted : List SaidLine → List NumberedLine → Result (List SaidLine) ScriptFault
accepted before [] = Ok before
accepted before (line ∷ lines) = line_verdict before line >>= λ said. accepted (before ++ said ∷ []) lines

-- the scenario that the bytes are, or the fault of the first faulty line
unfoldable pub script_of : List ℕ → Result Script ScriptFault
script_of bytes = accepted [] (nonblank_lines bytes) >>= λ lines. Ok (script_said lines)
