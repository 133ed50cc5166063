-- Reading, up to the first fault.
use Rattle.std.specs.Prelude.{◌≡◌, ℕ, Result, Ok, Err}
use Rattle.scenario_lines.specs.Contents.{content_of}
use Rattle.scenario_lines.specs.declared.content.Content.{Content}
use Rattle.scenario_lines.specs.declared.flaw.Flaw.{Flaw}
use Rattle.scenario_lines.specs.declared.flaw.Flaw.TheVariants as flaw
use Rattle.scenario_reader.specs.TextLines.{NumberedLine}
use Rattle.scenario_reader.specs.declared.fault.ScriptFault.{ScriptFault}
use Rattle.scenario_reader.specs.declared.fault.ScriptFault.TheVariants.{BadJson, BadShape, BadName, BadOrder, TooMuch, OutOfMemory}

infixl 10 ◌>>=◌
-- what follows from what was read
abbrev pub ◌>>=◌ : {X Y : Type 0} → Result X ScriptFault → (X → Result Y ScriptFault) → Result Y ScriptFault
(Ok x) >>= f = f x
(Err fault) >>= f = Err fault

-- an answer is what was to be read, or the fault, unless memory ran out
abbrev pub GivesReading : {X : Type 0} → Result X ScriptFault → Result X ScriptFault → Type 0
GivesReading (Ok x) reading = reading ≡ Ok x
GivesReading (Err (BadJson line)) reading = reading ≡ Err (BadJson line)
GivesReading (Err (BadShape line)) reading = reading ≡ Err (BadShape line)
GivesReading (Err (BadName line)) reading = reading ≡ Err (BadName line)
GivesReading (Err (BadOrder line)) reading = reading ≡ Err (BadOrder line)
GivesReading (Err (TooMuch line)) reading = reading ≡ Err (TooMuch line)
GivesReading (Err OutOfMemory) reading = Unit {0}

-- the fault of a line with this flaw
abbrev pub flaw_at : Flaw → ℕ → ScriptFault
flaw_at flaw.BadJson line = BadJson line
flaw_at flaw.BadShape line = BadShape line
flaw_at flaw.BadName line = BadName line

-- what was read of a line by itself
abbrev pub or_flaw : ℕ → Result Content Flaw → Result Content ScriptFault
or_flaw line (Ok content) = Ok content
or_flaw line (Err flaw) = Err (flaw_at flaw line)

-- what a line says by itself
abbrev pub said_on : NumberedLine → Result Content ScriptFault
said_on line = or_flaw line.number (content_of line.text)
