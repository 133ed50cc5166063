-- Reading a dump, up to the first faulty line.
use Rattle.std.specs.Prelude.{◌≡◌, ℕ, Option, Some, None, Result, Ok, Err}
use Rattle.dump_lines.specs.Lines.{line_of}
use Rattle.dump_lines.specs.declared.dump_line.DumpLine.{DumpLine}
use Rattle.dump_lines.specs.declared.fault.LineFault.{LineFault}
use Rattle.dump_reader.specs.TextLines.{NumberedLine}
use Rattle.dump_reader.specs.declared.fault.DumpError.{DumpError}
use Rattle.dump_reader.specs.declared.fault.DumpError.TheVariants.{Faulty, OutOfMemory}
use Rattle.dump_reader.specs.declared.fault.DumpFault.{DumpFault}
use Rattle.dump_reader.specs.declared.fault.DumpFault.TheVariants.{Line}

-- a fault and the line that has it
pub record FaultAt : Type 0 where
  pub fault : DumpFault
  pub line : ℕ

-- a fault in a line
abbrev pub at : DumpFault → ℕ → FaultAt
at fault line = record { fault = fault; line = line }

infixl 10 ◌>>=◌
-- what follows from what was read
abbrev pub ◌>>=◌ : {X Y : Type 0} → Result X FaultAt → (X → Result Y FaultAt) → Result Y FaultAt
(Ok x) >>= f = f x
(Err fault) >>= f = Err fault

-- what was read, unless there is a fault
abbrev pub unless : {X : Type 0} → Option FaultAt → X → Result X FaultAt
unless None x = Ok x
unless (Some fault) x = Err fault

-- an answer is what was to be read, or the fault and its line, unless memory ran out
abbrev pub GivesDump : {X : Type 0} → Result X DumpError → Result X FaultAt → Type 0
GivesDump (Ok x) reading = reading ≡ Ok x
GivesDump (Err (Faulty fault line)) reading = reading ≡ Err (at fault line)
GivesDump (Err OutOfMemory) reading = Unit {0}

-- what was read of a line by itself
abbrev pub or_line_fault : ℕ → Result DumpLine LineFault → Result DumpLine FaultAt
or_line_fault n (Ok line) = Ok line
or_line_fault n (Err fault) = Err (at (Line fault) n)

-- what a line says by itself
abbrev pub said_on : NumberedLine → Result DumpLine FaultAt
said_on line = or_line_fault line.number (line_of line.text)
