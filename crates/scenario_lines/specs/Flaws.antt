-- Reading, up to the first flaw.
use Rattle.std.specs.Prelude.{◌≡◌, List, ℕ, Option, Some, None, Result, Ok, Err, if◌then◌else◌}
use Rattle.std.specs.Str.{is_utf8}
use Rattle.serde_json.specs.Data.{Data}
use Rattle.serde_json.specs.Read.{read}
use Rattle.scenario_lines.specs.declared.flaw.Flaw.{Flaw}
use Rattle.scenario_lines.specs.declared.flaw.Flaw.TheVariants.{BadJson, BadShape}
use Rattle.scenario_lines.specs.declared.flaw.LineError.{LineError}
use Rattle.scenario_lines.specs.declared.flaw.LineError.TheVariants.{Flawed, OutOfMemory}

infixl 10 ◌>>=◌
-- what follows from what was read
abbrev pub ◌>>=◌ : {X Y : Type 0} → Result X Flaw → (X → Result Y Flaw) → Result Y Flaw
(Ok x) >>= f = f x
(Err flaw) >>= f = Err flaw

-- an answer is what was to be read, or the flaw, unless memory ran out
abbrev pub GivesContent : {X Y : Type 0} → (X → Y) → Result X LineError → Result Y Flaw → Type 0
GivesContent view (Ok x) reading = reading ≡ Ok (view x)
GivesContent view (Err (Flawed flaw)) reading = reading ≡ Err flaw
GivesContent view (Err OutOfMemory) reading = Unit {0}

-- an answer, and what it left in its place: that is what was to be read, or the answer is the flaw
abbrev pub GivesInPlace : {X : Type 0} → Result (Unit {0}) Flaw → X → Result X Flaw → Type 0
GivesInPlace result left reading = (result >>= λ done. Ok left) ≡ reading

-- what a text in JSON stands for, where it stands for something
abbrev pub or_json : Option Data → Result Data Flaw
or_json (Some d) = Ok d
or_json None = Err BadJson

-- what is there as it has to be
abbrev pub or_shape : {X : Type 0} → Option X → Result X Flaw
or_shape (Some x) = Ok x
or_shape None = Err BadShape

-- what the bytes of a line stand for as JSON
abbrev pub json_said : List ℕ → Result Data Flaw
json_said bytes = if is_utf8 bytes then or_json (read bytes) else Err BadJson
