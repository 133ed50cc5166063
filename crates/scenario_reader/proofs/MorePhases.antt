-- The phases of lines, when one more comes.
use Rattle.std.proofs.Common.{◌≡◌, ◌∙◌, ℕ, false, if◌then◌else◌, List, [], ◌∷◌, ◌++◌, Option, Some, None, option_to_list, refl, ap}
use Rattle.std.specs.Option.{option_or}
use Rattle.std.proofs.lemmas.List.Elements.{filter_map-append}
use Rattle.crash_backoff.specs.declared.moment.Moment.{Moment}
use Rattle.scenario_lines.specs.declared.actor.Actor.{Actor}
use Rattle.scenario_lines.specs.declared.content.Content.TheVariants.{Phase as At, Acts, Round}
use Rattle.scenario_reader.specs.Order.{last_from, last_phase}
use Rattle.scenario_reader.specs.Phases.{act_on, acts_in, begun_by, phase_of, phases_of, round_in, round_on, until_at}
use Rattle.scenario_reader.specs.Said.{SaidLine, is_at}
use Rattle.scenario_lines.specs.declared.script.Line.{Line}
use Rattle.scenario_lines.specs.declared.script.Phase.{Phase}
use Rattle.scenario_lines.specs.declared.script.RoundLine.{RoundLine}
use Rattle.scenario_reader.proofs.LastPhases.{front_from, front_of}

-- a phase with what is said on one more line
abbrev pub with_said : List Actor → SaidLine → Phase → Phase
with_said actors said phase =
    record {
      at = phase.at;
      lines = phase.lines ++ option_to_list (act_on actors said.line said.content);
      round =
          option_or phase.round (round_on said.line said.content);
    }

-- phases whose last has one more line, where this one stands before them
abbrev pub more_from : List Actor → SaidLine → Phase → List Phase → List Phase
more_from actors said phase [] = with_said actors said phase ∷ []
more_from actors said phase (next ∷ more) = phase ∷ more_from actors said next more

-- phases whose last has one more line
abbrev pub more_in : List Actor → SaidLine → List Phase → List Phase
more_in actors said [] = []
more_in actors said (phase ∷ more) = more_from actors said phase more

round-assoc : (a b c : Option RoundLine) → option_or a (option_or b c) ≡ option_or (option_or a b) c
round-assoc (Some x) b c = refl
round-assoc None b c = refl

round-none : (o : Option RoundLine) → option_or o None ≡ o
round-none (Some x) = refl
round-none None = refl

round_in-push : (lines : List SaidLine) (said : SaidLine)
    → round_in (lines ++ said ∷ []) ≡ option_or (round_in lines) (round_on said.line said.content)
round_in-push [] said = round-none (round_on said.line said.content)
round_in-push (first ∷ more) said =
    ap (λ r. option_or (round_on first.line first.content) r) (round_in-push more said) ∙ round-assoc
    (round_on first.line first.content) (round_in more) (round_on said.line said.content)

one-act : (actors : List Actor) (said : SaidLine) (o : Option Line) → act_on actors said.line said.content ≡ o
    → acts_in actors (said ∷ []) ≡ option_to_list o
one-act actors said (Some l) e = rw e refl
one-act actors said None e = rw e refl

acts_in-push : (actors : List Actor) (lines : List SaidLine) (said : SaidLine)
    → acts_in actors (lines ++ said ∷ []) ≡ acts_in actors lines
    ++ option_to_list (act_on actors said.line said.content)
acts_in-push actors lines said =
    filter_map-append (λ (s : SaidLine). act_on actors s.line s.content) lines (said ∷ []) ∙ ap
    (λ ls. acts_in actors lines ++ ls) (one-act actors said (act_on actors said.line said.content) refl)

-- where no line is an at, all stand before the next
until-open : (actors : List Actor) (lines : List SaidLine) (said : SaidLine) → is_at said.content ≡ false
    → phases_of actors lines ≡ [] → until_at (lines ++ said ∷ []) ≡ until_at lines ++ said ∷ []
until-open actors [] said isnt none = rw isnt refl
until-open actors (first ∷ more) said isnt none =
    elim first.content as (λ c. begun_by actors c more ++ phases_of actors more ≡ []
    → (if is_at c then [] else first ∷ until_at (more ++ said ∷ []))
    ≡ (if is_at c then [] else first ∷ until_at more) ++ said ∷ []) [
      | At at ↦ λ h. cc
      | Acts act ↦ λ h. ap (λ ls. first ∷ ls) (until-open actors more said isnt h)
      | Round losses ↦ λ h. ap (λ ls. first ∷ ls) (until-open actors more said isnt h)
    ] none

-- where a line is an at, those up to it stay
until-closed : (actors : List Actor) (lines : List SaidLine) (said : SaidLine) (phase : Phase) (rest : List Phase)
    → phases_of actors lines ≡ phase ∷ rest → until_at (lines ++ said ∷ []) ≡ until_at lines
until-closed actors [] said phase rest some = cc
until-closed actors (first ∷ more) said phase rest some =
    elim first.content as (λ c. begun_by actors c more ++ phases_of actors more ≡ phase ∷ rest
    → (if is_at c then [] else first ∷ until_at (more ++ said ∷ []))
    ≡ (if is_at c then [] else first ∷ until_at more)) [
      | At at ↦ λ h. refl
      | Acts act ↦ λ h. ap (λ ls. first ∷ ls) (until-closed actors more said phase rest h)
      | Round losses ↦ λ h. ap (λ ls. first ∷ ls) (until-closed actors more said phase rest h)
    ] some

phase-with : (actors : List Actor) (at : Moment) (lines : List SaidLine) (said : SaidLine) (until : List SaidLine)
    → until ≡ until_at lines ++ said ∷ [] → record { at = at; lines = acts_in actors until; round = round_in until }
    ≡ with_said actors said (phase_of actors at lines)
phase-with actors at lines said until is =
    ap (λ (ls : List SaidLine). record { at = at; lines = acts_in actors ls; round = round_in ls }) is
    ∙ (λ i. record {
      at = at;
      lines = acts_in-push actors (until_at lines) said i;
      round =
          round_in-push (until_at lines) said i;
    })

begun-more : (actors : List Actor) (at : Moment) (lines : List SaidLine) (said : SaidLine) → is_at said.content ≡ false
    → (ps : List Phase) → phases_of actors lines ≡ ps → phase_of actors at (lines ++ said ∷ []) ∷ more_in actors said ps
    ≡ more_from actors said (phase_of actors at lines) ps
begun-more actors at lines said isnt [] is = ap (λ p. p ∷ [])
    (phase-with actors at lines said (until_at (lines ++ said ∷ [])) (until-open actors lines said isnt is))
begun-more actors at lines said isnt (p ∷ rest) is =
    ap (λ (ls : List SaidLine). record { at = at; lines = acts_in actors ls; round = round_in ls }
    ∷ more_from actors said p rest) (until-closed actors lines said p rest is)

-- a line that is no at goes to the last phase
pub phases_of-more : (actors : List Actor) (lines : List SaidLine) (said : SaidLine) → is_at said.content ≡ false
    → phases_of actors (lines ++ said ∷ []) ≡ more_in actors said (phases_of actors lines)
phases_of-more actors [] said isnt =
    elim said.content as (λ c. is_at c ≡ false → begun_by actors c [] ++ [] ≡ [])
    [ At at ↦ λ h. cc | Acts act ↦ λ h. refl | Round losses ↦ λ h. refl ] isnt
phases_of-more actors (first ∷ more) said isnt =
    elim first.content as (λ c. begun_by actors c (more ++ said ∷ []) ++ phases_of actors (more ++ said ∷ [])
    ≡ more_in actors said (begun_by actors c more ++ phases_of actors more)) [
      | At at ↦ ap (λ ps. phase_of actors at (more ++ said ∷ []) ∷ ps)
          (phases_of-more actors more said isnt) ∙ begun-more actors at more said isnt (phases_of actors more) refl
      | Acts act ↦ phases_of-more actors more said isnt
      | Round losses ↦ phases_of-more actors more said isnt
    ]

until-at : (lines : List SaidLine) (line : ℕ) (at : Moment)
    → until_at (lines ++ record { line = line; content = At at } ∷ []) ≡ until_at lines
until-at [] line at = refl
until-at (first ∷ more) line at = ap (λ ls. if is_at first.content then [] else first ∷ ls) (until-at more line at)

-- an at begins a phase
pub phases_of-begun : (actors : List Actor) (lines : List SaidLine) (line : ℕ) (at : Moment)
    → phases_of actors (lines ++ record { line = line; content = At at } ∷ []) ≡ phases_of actors lines
    ++ phase_of actors at [] ∷ []
phases_of-begun actors [] line at = refl
phases_of-begun actors (first ∷ more) line at =
    elim first.content as (λ c. begun_by actors c (more ++ record { line = line; content = At at } ∷ [])
    ++ phases_of actors (more ++ record { line = line; content = At at } ∷ [])
    ≡ (begun_by actors c more ++ phases_of actors more) ++ phase_of actors at [] ∷ []) [
      | At earlier ↦ λ i. record {
        at = earlier;
        lines = acts_in actors (until-at more line at i);
        round =
            round_in (until-at more line at i);
      } ∷ phases_of-begun actors more line at i
      | Acts act ↦ phases_of-begun actors more line at
      | Round losses ↦ phases_of-begun actors more line at
    ]

last-more : (actors : List Actor) (said : SaidLine) (phase : Phase) (more : List Phase)
    → more_from actors said phase more ≡ front_from phase more ++ with_said actors said (last_from phase more) ∷ []
last-more actors said phase [] = refl
last-more actors said phase (next ∷ more) = ap (λ ps. phase ∷ ps) (last-more actors said next more)

-- the last phase has one more line, and the others stay
pub more_in-last : (actors : List Actor) (said : SaidLine) (phases : List Phase) (phase : Phase)
    → last_phase phases ≡ Some phase → more_in actors said phases ≡ front_of phases ++ with_said actors said phase ∷ []
more_in-last actors said [] phase is = cc
more_in-last actors said (first ∷ more) phase is =
    let same : last_from first more ≡ phase = cc in
    last-more actors said first more ∙ ap (λ p. front_from first more ++ with_said actors said p ∷ []) same
