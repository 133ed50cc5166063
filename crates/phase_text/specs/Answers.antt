-- Which answers are those of a phase.
use Rattle.std.specs.Prelude.{◌≡◌, ◌≤◌, ◌<◌, List, length, All, AllPairs, Contains}
use Rattle.std.specs.List.Sorted.{IsNonDecreasingBy}
use Rattle.scenario_lines.specs.declared.actor.Actor.{Actor}
use Rattle.scenario_lines.specs.declared.answered.Answered.{Answered}
use Rattle.scenario_lines.specs.declared.script.Line.{Line}

-- an answer is to one of these lines, and to the line's actor
pub record IsToLine (lines : List Line) (a : Answered) : Type 0 where
  pub line : Line
  pub among : Contains lines line
  pub number : line.line ≡ a.line
  pub actor : line.actor ≡ a.actor

-- it is to one of these actors too, which count from 1
pub record IsActorAnswer (actors : List Actor) (lines : List Line) (a : Answered) : Type 0 where
  pub line : IsToLine lines a
  pub actor : (1 ≤ a.actor) × (a.actor ≤ length actors)

-- the numbers of lines rise
abbrev pub LineNumbersRise : List Line → Type 0
LineNumbersRise lines = AllPairs (λ a b. a.line < b.line) lines

-- the lines that answers are to don't fall
abbrev pub AreByLine : List Answered → Type 0
AreByLine answers = IsNonDecreasingBy (λ a. a.line) answers

-- the answers are to these lines, whose numbers rise, and by these actors
pub record AreActorAnswers (actors : List Actor) (lines : List Line) (answers : List Answered) : Type 0 where
  pub rising : LineNumbersRise lines
  pub each : All (IsActorAnswer actors lines) answers
