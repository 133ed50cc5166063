-- What was read line by line is what the lines say.
use Rattle.std.proofs.Common.{◌≡◌, ◌∙◌, ℕ, ◌+◌, Bool, true, false, ◌&&◌, ◌||◌, if◌then◌else◌, nat_lt, List, [], ◌∷◌, ◌++◌, length, Option, Some, None, is_some, option_to_list, Ok, Err, refl, sym, ap, add-zero}
use Rattle.std.specs.List.{list_any}
use Rattle.std.specs.Option.{option_or}
use Rattle.std.proofs.lemmas.List.{append-nil}
use Rattle.std.proofs.lemmas.List.Sums.{fold-append}
use Rattle.crash_backoff.specs.declared.moment.Moment.{Moment}
use Rattle.scenario_lines.specs.Acts.{is_of_cell}
use Rattle.scenario_lines.specs.declared.actor.Actor.{Actor}
use Rattle.scenario_lines.specs.declared.content.ActLine.{ActLine}
use Rattle.scenario_lines.specs.declared.content.Content.{Content}
use Rattle.scenario_lines.specs.declared.content.Content.TheVariants.{Phase as At, Acts, Round}
use Rattle.scenario_lines.specs.declared.content.Losses.{Losses}
use Rattle.scenario_reader.specs.Accepted.{admit}
use Rattle.scenario_reader.specs.Actors.{actors_of, with_acting, with_actor}
use Rattle.scenario_reader.specs.Faults.{◌>>=◌}
use Rattle.scenario_reader.specs.Order.{is_cells_line, is_misplaced, is_out_of_order, is_too_much, last_phase, runs_of}
use Rattle.scenario_reader.specs.Phases.{act_line, phases_of, round_line}
use Rattle.scenario_reader.specs.Said.{SaidLine, is_at, runs_on}
use Rattle.scenario_reader.specs.Steps.{acted_in, begun_at, is_before, rounded_in, step, with_line, within}
use Rattle.scenario_reader.specs.declared.fault.ScriptFault.TheVariants.{BadOrder, TooMuch}
use Rattle.scenario_reader.specs.declared.reading.Reading.{Reading}
use Rattle.scenario_lines.specs.declared.script.Phase.{Phase}
use Rattle.scenario_lines.specs.declared.script.RoundLine.{RoundLine}
use Rattle.scenario_reader.proofs.ActorNumbers.{actors_from-known, actors_from-push, actor_number-own}
use Rattle.scenario_reader.proofs.KeptPhases.{phases_of-kept}
use Rattle.scenario_reader.proofs.LastPhases.{front_of, front_of-last_phase, front_of-push, last_phase-push}
use Rattle.scenario_reader.proofs.MorePhases.{more_in, more_in-last, phases_of-begun, phases_of-more, with_said}

-- the phases of lines, with the numbers that their actors have
abbrev pub own_phases : List SaidLine → List Phase
own_phases lines = phases_of (actors_of lines) lines

-- what lines come to
abbrev pub reading_of : List SaidLine → Reading
reading_of lines = record {
  actors = actors_of lines;
  closed = front_of (own_phases lines);
  last = last_phase (own_phases lines);
  runs = runs_of lines;
}

-- the same, by its parts
reading-by : (lines : List SaidLine) (actors : List Actor) (closed : List Phase) (last : Option Phase) (runs : ℕ)
    → actors ≡ actors_of lines → closed ≡ front_of (own_phases lines) → last ≡ last_phase (own_phases lines)
    → runs ≡ runs_of lines → record { actors = actors; closed = closed; last = last; runs = runs } ≡ reading_of lines
reading-by lines actors closed last runs p q r s = λ i. record { actors = p i; closed = q i; last = r i; runs = s i }

-- one more line has its runs
runs-push : (lines : List SaidLine) (said : SaidLine) → runs_of lines + runs_on said.content
    ≡ runs_of (lines ++ said ∷ [])
runs-push lines said = sym (fold-append (λ (n : ℕ) (s : SaidLine). n + runs_on s.content) 0 lines (said ∷ []))

-- one more line has its actor
actors-push : (lines : List SaidLine) (said : SaidLine)
    → with_acting (actors_of lines) said.content ≡ actors_of (lines ++ said ∷ [])
actors-push lines said = sym (actors_from-push [] lines said)

-- the phases with one more line that is no at
phases-more : (lines : List SaidLine) (said : SaidLine) (phase : Phase) → is_at said.content ≡ false
    → last_phase (own_phases lines) ≡ Some phase → own_phases (lines ++ said ∷ []) ≡ front_of (own_phases lines)
    ++ with_said (with_acting (actors_of lines) said.content) said phase ∷ []
phases-more lines said phase isnt last =
    let actors = with_acting (actors_of lines) said.content in
    let same = phases_of-kept (actors_of lines) lines said.content (actors_from-known [] lines) in
    ap (λ (who : List Actor). phases_of who (lines ++ said ∷ [])) (sym (actors-push lines said))
    ∙ phases_of-more actors lines said isnt
    ∙ ap (more_in actors said) same
    ∙ more_in-last actors said (own_phases lines) phase last

-- the phases with one more at
phases-begun : (lines : List SaidLine) (line : ℕ) (at : Moment)
    → own_phases (lines ++ record { line = line; content = At at } ∷ []) ≡ own_phases lines ++ begun_at at ∷ []
phases-begun lines line at =
    ap (λ (who : List Actor). phases_of who (lines ++ record { line = line; content = At at } ∷ []))
    (sym (actors-push lines (record { line = line; content = At at })))
    ∙ phases_of-begun (actors_of lines) lines line at

-- what the lines come to, where the last phase is known
reading-more : (lines : List SaidLine) (said : SaidLine) (actors : List Actor) (closed : List Phase) (phase : Phase)
    (runs : ℕ) → own_phases (lines ++ said ∷ []) ≡ closed ++ phase ∷ [] → actors ≡ actors_of (lines ++ said ∷ [])
    → runs ≡ runs_of (lines ++ said ∷ []) → record { actors = actors; closed = closed; last = Some phase; runs = runs }
    ≡ reading_of (lines ++ said ∷ [])
reading-more lines said actors closed phase runs is who many =
    reading-by (lines ++ said ∷ []) actors closed (Some phase) runs who
    (sym (ap front_of is ∙ front_of-push closed phase))
    (sym (ap last_phase is ∙ last_phase-push closed phase))
    many

-- a step that ends beyond the limits, and the line that does
limited : (b t : Bool) (line : ℕ) (said : SaidLine) (f : SaidLine → Reading)
    → (if b then Err (BadOrder line) else (if t then Err (TooMuch line) else Ok (f said)))
    ≡ ((if b then Err (BadOrder line) else (if t then Err (TooMuch line) else Ok said)) >>= λ s. Ok (f s))
limited true t line said f = refl
limited false true line said f = refl
limited false false line said f = refl

-- the same, where nothing is counted
unlimited : (b t : Bool) (line : ℕ) (said : SaidLine) (f : SaidLine → Reading) → t ≡ false
    → (if b then Err (BadOrder line) else Ok (f said)) ≡ ((if b then Err (BadOrder line) else
    (if t then Err (TooMuch line) else Ok said)) >>= λ s. Ok (f s))
unlimited b true line said f small = cc
unlimited true false line said f small = refl
unlimited false false line said f small = refl

-- the line of a reading that goes on behind these
abbrev pub StepsAlike : List SaidLine → ℕ → Content → Type 0
StepsAlike lines line c = step (reading_of lines) line c
    ≡ (admit lines (record { line = line; content = c }) >>= λ said. Ok (reading_of (lines ++ said ∷ [])))

before-misplaced : (o : Option Phase) (at : Moment) → is_before at o ≡ is_misplaced o (At at)
before-misplaced (Some phase) at = refl
before-misplaced None at = refl

at-alike : (lines : List SaidLine) (line : ℕ) (at : Moment) → is_too_much lines ≡ false → StepsAlike lines line (At at)
at-alike lines line at small =
    let said : SaidLine = record { line = line; content = At at } in
    let after = lines ++ said ∷ [] in
    let count : runs_of lines ≡ runs_of after = sym (add-zero (runs_of lines)) ∙ runs-push lines said in
    let split = front_of-last_phase (own_phases lines) in
    let next = reading-more lines said (actors_of lines) (front_of (own_phases lines)
    ++ option_to_list (last_phase (own_phases lines))) (begun_at at) (runs_of lines)
    (phases-begun lines line at ∙ ap (λ ps. ps ++ begun_at at ∷ []) (sym split))
    (actors-push lines said) count in
    let few : is_too_much after ≡ false = (λ i. nat_lt 256 (length (sym (actors-push lines said) i)) || nat_lt 200000
    (sym count i)) ∙ small in
    (λ i. if before-misplaced (last_phase (own_phases lines)) at i then Err (BadOrder line) else Ok (next i))
    ∙ unlimited (is_out_of_order lines said) (is_too_much after) line said (λ s. reading_of (lines ++ s ∷ [])) few

round-none : (o : Option RoundLine) → option_or o None ≡ o
round-none (Some x) = refl
round-none None = refl

act-alike : (lines : List SaidLine) (line : ℕ) (act : ActLine) (o : Option Phase) → last_phase (own_phases lines) ≡ o
    → acted_in o (reading_of lines) line act ≡ ((if is_misplaced o (Acts act) then Err (BadOrder line) else
    (if is_too_much (lines ++ record { line = line; content = Acts act } ∷ []) then Err (TooMuch line) else Ok
    (record { line = line; content = Acts act }))) >>= λ said. Ok (reading_of (lines ++ said ∷ [])))
act-alike lines line act None last = refl
act-alike lines line act (Some phase) last =
    let said : SaidLine = record { line = line; content = Acts act } in
    let added = act_line (with_actor (actors_of lines) act.actor) line act in
    let same : Some added ≡ Some (act_line (actors_of lines) line act) =
    ap (λ (n : ℕ). Some (record { line = line; actor = n; act = act.act; lost = act.lost; times = act.times }))
    (actor_number-own (actors_of lines) act.actor) in
    let grown : with_said (with_actor (actors_of lines) act.actor) said phase
    ≡ with_line phase (act_line (actors_of lines) line act) =
    (λ i. record { at = phase.at; lines = phase.lines ++ option_to_list (same i); round = round-none phase.round i }) in
    let next = reading-more lines said (with_actor (actors_of lines) act.actor) (front_of (own_phases lines))
    (with_line phase (act_line (actors_of lines) line act)) (runs_of lines + act.times)
    (phases-more lines said phase refl last ∙ ap (λ p. front_of (own_phases lines) ++ p ∷ []) grown)
    (actors-push lines said) (runs-push lines said) in
    ap (λ (r : Reading). if is_of_cell act.act && is_some phase.round then Err (BadOrder line) else within line r) next
    ∙ limited (is_misplaced (Some phase) (Acts act)) (is_too_much (lines ++ said ∷ [])) line said
    (λ s. reading_of (lines ++ s ∷ []))

round-some : (o : Option RoundLine) (b : Bool) (round : RoundLine) → (is_some o || b) ≡ false
    → option_or o (Some round) ≡ Some round
round-some (Some x) b round isnt = cc
round-some None b round isnt = refl

round-next : (lines : List SaidLine) (line : ℕ) (losses : Losses) (phase : Phase)
    → last_phase (own_phases lines) ≡ Some phase → is_misplaced (Some phase) (Round losses) ≡ false
    → record {
      actors = actors_of lines;
      closed = front_of (own_phases lines);
      last =
          Some (record phase { round = Some (round_line line losses) });
      runs = runs_of lines + 1;
    }
    ≡ reading_of (lines ++ record { line = line; content = Round losses } ∷ [])
round-next lines line losses phase last isnt =
    let said : SaidLine = record { line = line; content = Round losses } in
    let ended : with_said (actors_of lines) said phase ≡ record phase { round = Some (round_line line losses) } =
    (λ i. record {
      at = phase.at;
      lines = append-nil phase.lines i;
      round =
          round-some phase.round (list_any is_cells_line phase.lines) (round_line line losses) isnt i;
    }) in
    reading-more lines said (actors_of lines) (front_of (own_phases lines))
    (record phase { round = Some (round_line line losses) }) (runs_of lines + 1)
    (phases-more lines said phase refl last ∙ ap (λ p. front_of (own_phases lines) ++ p ∷ []) ended)
    (actors-push lines said) (runs-push lines said)

round-in : (lines : List SaidLine) (line : ℕ) (losses : Losses) (phase : Phase)
    → last_phase (own_phases lines) ≡ Some phase → (b : Bool) → is_misplaced (Some phase) (Round losses) ≡ b
    → (if b then Err (BadOrder line) else within line (record {
      actors = actors_of lines;
      closed = front_of (own_phases lines);
      last =
          Some (record phase { round = Some (round_line line losses) });
      runs = runs_of lines + 1;
    }))
    ≡ ((if b then Err (BadOrder line) else (if is_too_much
    (lines ++ record { line = line; content = Round losses } ∷ []) then Err (TooMuch line) else Ok
    (record { line = line; content = Round losses }))) >>= λ said. Ok (reading_of (lines ++ said ∷ [])))
round-in lines line losses phase last true is = refl
round-in lines line losses phase last false is =
    let said : SaidLine = record { line = line; content = Round losses } in
    ap (λ (r : Reading). within line r) (round-next lines line losses phase last is)
    ∙ limited false (is_too_much (lines ++ said ∷ [])) line said (λ s. reading_of (lines ++ s ∷ []))

round-alike : (lines : List SaidLine) (line : ℕ) (losses : Losses) (o : Option Phase)
    → last_phase (own_phases lines) ≡ o → rounded_in o (reading_of lines) line losses
    ≡ ((if is_misplaced o (Round losses) then Err (BadOrder line) else
    (if is_too_much (lines ++ record { line = line; content = Round losses } ∷ []) then Err (TooMuch line) else Ok
    (record { line = line; content = Round losses }))) >>= λ said. Ok (reading_of (lines ++ said ∷ [])))
round-alike lines line losses None last = refl
round-alike lines line losses (Some phase) last = round-in lines line losses phase last
    (is_misplaced (Some phase) (Round losses)) refl

-- a step is what the line says behind the others, whatever it says
pub steps-alike : (lines : List SaidLine) (line : ℕ) (c : Content) → is_too_much lines ≡ false → StepsAlike lines line c
steps-alike lines line (At at) small = at-alike lines line at small
steps-alike lines line (Acts act) small = act-alike lines line act (last_phase (own_phases lines)) refl
steps-alike lines line (Round losses) small = round-alike lines line losses (last_phase (own_phases lines)) refl
