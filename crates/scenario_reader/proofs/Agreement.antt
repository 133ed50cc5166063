-- What is read line by line is the scenario that the bytes are.
use Rattle.std.proofs.Common.{◌≡◌, ◌∙◌, ℕ, Bool, true, false, if◌then◌else◌, List, [], ◌∷◌, ◌++◌, Result, Ok, Err, refl, sym, ap, subst}
use Rattle.scenario_lines.specs.declared.content.Content.{Content}
use Rattle.scenario_reader.specs.Accepted.{accepted, admit, script_of}
use Rattle.scenario_reader.specs.Faults.{◌>>=◌, GivesReading, said_on}
use Rattle.scenario_reader.specs.Order.{is_out_of_order, is_too_much}
use Rattle.scenario_reader.specs.Phases.{script_said}
use Rattle.scenario_reader.specs.Said.{SaidLine}
use Rattle.scenario_reader.specs.Steps.{read_from, script_in, start, step}
use Rattle.scenario_reader.specs.TextLines.{NumberedLine, nonblank_lines}
use Rattle.scenario_reader.specs.declared.fault.ScriptFault.{ScriptFault}
use Rattle.scenario_reader.specs.declared.fault.ScriptFault.TheVariants.{BadJson, BadShape, BadName, BadOrder, TooMuch, OutOfMemory}
use Rattle.scenario_reader.specs.declared.reading.Reading.{Reading}
use Rattle.scenario_lines.specs.declared.script.Script.{Script}
use Rattle.scenario_reader.proofs.LastPhases.{front_of-last_phase}
use Rattle.scenario_reader.proofs.Tracked.{own_phases, reading_of, steps-alike}

-- reading these lines goes on behind those as the lines are accepted
abbrev pub ReadsOn : List NumberedLine → Type 0
ReadsOn lines = (before : List SaidLine) → is_too_much before ≡ false
    → read_from (reading_of before) lines ≡ (accepted before lines >>= λ all. Ok (reading_of all))

-- a line is placed, and the others follow
admit-on : (before : List SaidLine) (said : SaidLine) (lines : List NumberedLine) (b t : Bool)
    → is_too_much (before ++ said ∷ []) ≡ t → ReadsOn lines
    → (((if b then Err (BadOrder said.line) else (if t then Err (TooMuch said.line) else Ok said)) >>= λ s.
    Ok (reading_of (before ++ s ∷ []))) >>= λ next. read_from next lines)
    ≡ (((if b then Err (BadOrder said.line) else (if t then Err (TooMuch said.line) else Ok said)) >>= λ s.
    accepted (before ++ s ∷ []) lines) >>= λ all. Ok (reading_of all))
admit-on before said lines true t is on = refl
admit-on before said lines false true is on = refl
admit-on before said lines false false is on = on (before ++ said ∷ []) is

-- a line is read, and the others follow
said-on : (before : List SaidLine) (line : ℕ) (lines : List NumberedLine) (r : Result Content ScriptFault)
    → is_too_much before ≡ false → ReadsOn lines → ((r >>= λ c. step (reading_of before) line c) >>= λ next.
    read_from next lines) ≡ (((r >>= λ c. admit before (record { line = line; content = c })) >>= λ said.
    accepted (before ++ said ∷ []) lines) >>= λ all. Ok (reading_of all))
said-on before line lines (Err fault) within on = refl
said-on before line lines (Ok c) within on =
    let said : SaidLine = record { line = line; content = c } in
    ap (λ (r : Result Reading ScriptFault). r >>= λ next. read_from next lines) (steps-alike before line c within)
    ∙ admit-on before said lines (is_out_of_order before said) (is_too_much (before ++ said ∷ [])) refl on

-- lines are read as they are accepted
reads-on : (lines : List NumberedLine) → ReadsOn lines
reads-on [] before within = refl
reads-on (line ∷ lines) before within = said-on before line.number lines (said_on line) within (reads-on lines)

-- the scenario of what the lines come to is theirs
own-script : (lines : List SaidLine) → script_in (reading_of lines) ≡ script_said lines
own-script lines = λ i. record { actors = (reading_of lines).actors; phases = front_of-last_phase (own_phases lines) i }

of-accepted : (r : Result (List SaidLine) ScriptFault)
    → ((r >>= λ all. Ok (reading_of all)) >>= λ reading. Ok (script_in reading))
    ≡ (r >>= λ lines. Ok (script_said lines))
of-accepted (Ok lines) = ap Ok (own-script lines)
of-accepted (Err fault) = refl

-- the scenario of all that was read is the one that the bytes are
pub script_of-read : (bytes : List ℕ) → script_of bytes
    ≡ (read_from start (nonblank_lines bytes) >>= λ reading. Ok (script_in reading))
unfolding script_of
script_of-read bytes =
    let lines = nonblank_lines bytes in
    sym (ap (λ (r : Result Reading ScriptFault). r >>= λ reading. Ok (script_in reading))
    (reads-on lines [] refl) ∙ of-accepted (accepted [] lines))

goes : (fault : ScriptFault) (r : Result Reading ScriptFault) → GivesReading {X = Reading} (Err fault) r
    → GivesReading {X = Script} (Err fault) (r >>= λ reading. Ok (script_in reading))
goes (BadJson line) r h = ap (λ (x : Result Reading ScriptFault). x >>= λ reading. Ok (script_in reading)) h
goes (BadShape line) r h = ap (λ (x : Result Reading ScriptFault). x >>= λ reading. Ok (script_in reading)) h
goes (BadName line) r h = ap (λ (x : Result Reading ScriptFault). x >>= λ reading. Ok (script_in reading)) h
goes (BadOrder line) r h = ap (λ (x : Result Reading ScriptFault). x >>= λ reading. Ok (script_in reading)) h
goes (TooMuch line) r h = ap (λ (x : Result Reading ScriptFault). x >>= λ reading. Ok (script_in reading)) h
goes OutOfMemory r h = tt

-- the fault of what was read is the fault of the bytes
pub gives_fault : (fault : ScriptFault) (bytes : List ℕ)
    → GivesReading {X = Reading} (Err fault) (read_from start (nonblank_lines bytes))
    → GivesReading {X = Script} (Err fault) (script_of bytes)
gives_fault fault bytes h =
    subst (GivesReading {X = Script} (Err fault)) (sym (script_of-read bytes))
    (goes fault (read_from start (nonblank_lines bytes)) h)
