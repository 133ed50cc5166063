-- A value that was read, and what it stands for.
use Rattle.std.specs.Prelude.{◌≡◌, Result, Ok, Err}
use Rattle.serde_json.specs.Data.{Data}
use Rattle.serde_json.specs.View.{view}
use Rattle.serde_json.specs.declared.value.Value.{Value}
use Rattle.dump_lines.specs.declared.fault.LineError.{LineError}
use Rattle.dump_lines.specs.declared.fault.LineError.TheVariants.{Faulty, OutOfMemory}
use Rattle.dump_lines.specs.declared.fault.LineFault.{LineFault}

-- a value that stands for what was to be read, or the fault, unless memory ran out
abbrev pub GivesValue : Result Value LineError → Result Data LineFault → Type 0
GivesValue (Ok value) reading = reading ≡ Ok (view value)
GivesValue (Err (Faulty fault)) reading = reading ≡ Err fault
GivesValue (Err OutOfMemory) reading = Unit {0}
