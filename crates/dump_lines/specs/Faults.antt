-- Reading one line, up to its first fault. Which is first is told by the faults, and not by where they stand.
use Rattle.std.specs.Prelude.{◌≡◌, ℕ, List, Option, Some, None, Result, Ok, Err, nat_le, if◌then◌else◌}
use Rattle.std.specs.Str.{is_utf8}
use Rattle.serde_json.specs.Data.{Data}
use Rattle.serde_json.specs.Read.{read}
use Rattle.dump_lines.specs.declared.fault.LineError.{LineError}
use Rattle.dump_lines.specs.declared.fault.LineError.TheVariants.{Faulty, OutOfMemory}
use Rattle.dump_lines.specs.declared.fault.LineFault.{LineFault}
use Rattle.dump_lines.specs.declared.fault.LineFault.TheVariants.{BadJson, BadShape, BadName, BadTags, BadAmounts}

-- the place of a fault among all
abbrev pub rank : LineFault → ℕ
rank BadJson = 0
rank BadShape = 1
rank BadName = 2
rank BadTags = 3
rank BadAmounts = 4

-- of two faults the first
abbrev pub first_of : LineFault → LineFault → LineFault
first_of a b = if nat_le (rank a) (rank b) then a else b

infixl 10 ◌>>=◌
-- what follows from what was read
abbrev pub ◌>>=◌ : {X Y : Type 0} → Result X LineFault → (X → Result Y LineFault) → Result Y LineFault
(Ok x) >>= f = f x
(Err fault) >>= f = Err fault

infixl 20 ◌&◌
-- two things that are read of one line: both, or the first of their faults
abbrev pub ◌&◌ : {X Y : Type 0} → Result X LineFault → Result Y LineFault → Result (X × Y) LineFault
(Ok x) & (Ok y) = Ok (x, y)
(Ok x) & (Err fault) = Err fault
(Err fault) & (Ok y) = Err fault
(Err fault) & (Err second) = Err (first_of fault second)

-- what is there as it has to be
abbrev pub or_shape : {X : Type 0} → Option X → Result X LineFault
or_shape (Some x) = Ok x
or_shape None = Err BadShape

-- what was read, unless there is a fault
abbrev pub unless : {X : Type 0} → Option LineFault → X → Result X LineFault
unless None x = Ok x
unless (Some fault) x = Err fault

-- what was read, unless there is a fault beside it
abbrev pub with_fault : {X : Type 0} → Result X LineFault → Option LineFault → Result X LineFault
with_fault (Ok x) None = Ok x
with_fault (Ok x) (Some fault) = Err fault
with_fault (Err fault) None = Err fault
with_fault (Err fault) (Some second) = Err (first_of fault second)

-- an answer is what was to be read, or its fault, unless memory ran out
abbrev pub Gives : {X : Type 0} → Result X LineError → Result X LineFault → Type 0
Gives (Ok x) reading = reading ≡ Ok x
Gives (Err (Faulty fault)) reading = reading ≡ Err fault
Gives (Err OutOfMemory) reading = Unit {0}

-- what a text in JSON stands for, where it stands for something
abbrev pub or_json : Option Data → Result Data LineFault
or_json (Some d) = Ok d
or_json None = Err BadJson

-- what the bytes of a line stand for as JSON
abbrev pub json_said : List ℕ → Result Data LineFault
json_said bytes = if is_utf8 bytes then or_json (read bytes) else Err BadJson
