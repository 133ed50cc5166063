-- Every scenario keeps what it has to.
use Rattle.std.proofs.Common.{◌≡◌, ℕ, ◌+◌, ◌<◌, Bool, true, false, not, cond, filter, List, [], ◌∷◌, ◌++◌, Option, Some, None, MatchOption, option_to_list, Result, Ok, Err, IfOk, refl, sym, subst, arith}
use Rattle.std.specs.List.{All, AllPairs}
use Rattle.std.proofs.lemmas.List.{append-nil}
use Rattle.std.proofs.lemmas.List.Elements.{All-nil, All-push}
use Rattle.std.proofs.lemmas.List.Quantifiers.{all_pairs_push}
use Rattle.scenario_lines.proofs.Public.{content_of-fits}
use Rattle.scenario_lines.specs.Contents.{content_of}
use Rattle.scenario_lines.specs.Laws.{FitsItsActor}
use Rattle.scenario_lines.specs.declared.actor.Actor.{Actor}
use Rattle.scenario_lines.specs.declared.content.Content.{Content}
use Rattle.scenario_lines.specs.declared.flaw.Flaw.{Flaw}
use Rattle.scenario_reader.specs.Accepted.{script_of}
use Rattle.scenario_reader.specs.Facts.{IsBefore, IsPhase, IsScript}
use Rattle.scenario_reader.specs.Faults.{◌>>=◌, or_flaw, said_on}
use Rattle.scenario_reader.specs.Steps.{read_from, script_in, start, step, step_on}
use Rattle.scenario_reader.specs.TextLines.{NumberedLine, is_blank, lines_of, nonblank_lines, numbered}
use Rattle.scenario_reader.specs.declared.fault.ScriptFault.{ScriptFault}
use Rattle.scenario_reader.specs.declared.reading.Reading.{Reading}
use Rattle.scenario_lines.specs.declared.script.Phase.{Phase}
use Rattle.scenario_lines.specs.declared.script.Script.{Script}
use Rattle.scenario_reader.proofs.Agreement.{script_of-read}
use Rattle.scenario_reader.proofs.SoundPhases.{IsLast}
use Rattle.scenario_reader.proofs.SoundSteps.{IsSound, step-sound}

-- the numbers of lines rise, from above this one on
abbrev Rise : ℕ → List NumberedLine → Type 0
Rise upto [] = Unit {0}
Rise upto (line ∷ lines) = (upto < line.number) × Rise line.number lines

rise-if : (b : Bool) (upto n : ℕ) (text : List ℕ) (lines : List NumberedLine) → upto < n
    → ((low : ℕ) → low < n + 1 → Rise low lines) → Rise upto (cond b (record { number = n; text = text } ∷ lines) lines)
rise-if true upto n text lines less more = (less, more n (omega arith))
rise-if false upto n text lines less more = more upto (omega arith)

-- the lines that aren't blank rise
rise-from : (texts : List (List ℕ)) (upto n : ℕ) → upto < n
    → Rise upto (filter (λ (line : NumberedLine). not (is_blank line.text)) (numbered n texts))
rise-from [] upto n less = tt
rise-from (text ∷ texts) upto n less =
    rise-if (not (is_blank text)) upto n text (filter (λ (line : NumberedLine). not (is_blank line.text))
    (numbered (n + 1) texts)) less (λ low h. rise-from texts low (n + 1) h)

-- some number is the greatest
abbrev IsSomeSound : Reading → Type 0
IsSomeSound reading = (upto : ℕ) × IsSound upto reading

flaw-fits : (line : ℕ) (r : Result Content Flaw) → IfOk r FitsItsActor → IfOk (or_flaw line r) FitsItsActor
flaw-fits line (Ok c) fits = fits
flaw-fits line (Err flaw) fits = tt

then-sound : (r : Result Reading ScriptFault) (lines : List NumberedLine) (P : Reading → Type 0) → IfOk r P
    → ((reading : Reading) → P reading → IfOk (read_from reading lines) IsSomeSound)
    → IfOk (r >>= λ next. read_from next lines) IsSomeSound
then-sound (Ok reading) lines P sound more = more reading sound
then-sound (Err fault) lines P sound more = tt

said-sound : (upto : ℕ) (reading : Reading) (line : ℕ) (r : Result Content ScriptFault) → upto < line
    → IsSound upto reading → IfOk r FitsItsActor → IfOk (r >>= λ c. step reading line c) (IsSound line)
said-sound upto reading line (Ok c) less sound fits = step-sound upto line reading c less fits sound
said-sound upto reading line (Err fault) less sound fits = tt

-- lines that rise are read to what a scenario keeps
read-sound : (lines : List NumberedLine) (upto : ℕ) (reading : Reading) → Rise upto lines → IsSound upto reading
    → IfOk (read_from reading lines) IsSomeSound
read-sound [] upto reading rise sound = (upto, sound)
read-sound (line ∷ lines) upto reading rise sound =
    then-sound (step_on reading line) lines (IsSound line.number)
    (said-sound upto reading line.number (said_on line) rise.0 sound
    (flaw-fits line.number (content_of line.text) (content_of-fits line.text)))
    (λ next known. read-sound lines line.number next rise.1 known)

start-sound : IsSound 0 start
start-sound = record {
  few = omega arith;
  distinct = λ i j d low high. absurd (omega arith);
  closed = All-nil _;
  order = λ i j d low high. absurd (omega arith);
  below = All-nil _;
  last = refl;
}

ended-sound : (upto : ℕ) (actors : List Actor) (closed : List Phase) (last : Option Phase) → All (IsPhase actors) closed
    → AllPairs IsBefore closed → MatchOption last (closed ≡ []) (IsLast actors closed upto)
    → All (IsPhase actors) (closed ++ option_to_list last) × AllPairs IsBefore (closed ++ option_to_list last)
ended-sound upto actors closed None phases order last = (
  subst (All (IsPhase actors)) (sym (append-nil closed)) phases,
  subst (AllPairs IsBefore) (sym (append-nil closed)) order,
)
ended-sound upto actors closed (Some phase) phases order last =
    (All-push (IsPhase actors) closed phase phases last.own, all_pairs_push IsBefore closed phase order last.behind)

-- the scenario of what was read
script-sound : (upto : ℕ) (reading : Reading) → IsSound upto reading → IsScript (script_in reading)
script-sound upto reading sound =
    let ended = ended-sound upto reading.actors reading.closed reading.last sound.closed sound.order sound.last in
    record { few = sound.few; distinct = sound.distinct; phases = ended.0; order = ended.1 }

script-known : (r : Result Reading ScriptFault) → IfOk r IsSomeSound
    → IfOk (r >>= λ reading. Ok (script_in reading)) IsScript
script-known (Ok reading) known = script-sound known.0 reading known.1
script-known (Err fault) known = tt

-- every scenario keeps what it has to
pub script_of-sound : (bytes : List ℕ) → IfOk (script_of bytes) IsScript
script_of-sound bytes =
    subst (λ (r : Result Script ScriptFault). IfOk r IsScript) (sym (script_of-read bytes))
    (script-known (read_from start (nonblank_lines bytes))
    (read-sound (nonblank_lines bytes) 0 start (rise-from (lines_of bytes) 0 1 (omega arith)) start-sound))
