-- What every scenario keeps.
use Rattle.std.specs.Prelude.{◌≡◌, ◌≢◌, ℕ, ◌-◌, ◌<◌, ◌≤◌, false, List, length, All, AllPairs, HoldsAt, IfSome}
use Rattle.scenario_lines.specs.Acts.{is_of_cell}
use Rattle.scenario_lines.specs.declared.actor.Actor.{Actor}
use Rattle.scenario_lines.specs.declared.script.Line.{Line}
use Rattle.scenario_lines.specs.declared.script.Phase.{Phase}
use Rattle.scenario_lines.specs.declared.script.RoundLine.{RoundLine}
use Rattle.scenario_lines.specs.declared.script.Script.{Script}

-- the line's actor is one of these and does what it can do, a cell's act or a client's, and that 1 to 1,000 times
pub record IsLine (actors : List Actor) (line : Line) : Type 0 where
  pub actor : (1 ≤ line.actor) × (line.actor ≤ length actors)
  pub whose : HoldsAt (λ a. a.cell ≡ is_of_cell line.act) actors (line.actor - 1)
  pub times : (1 ≤ line.times) × (line.times ≤ 1000)

-- a line beside a round has another number, and is no cell's
pub record IsBesideRound (round : RoundLine) (line : Line) : Type 0 where
  pub number : line.line ≢ round.line
  pub client : is_of_cell line.act ≡ false

-- the lines of a phase are lines, their numbers rise, and each may stand beside its round
pub record IsPhase (actors : List Actor) (phase : Phase) : Type 0 where
  pub lines : All (IsLine actors) phase.lines
  pub rising : AllPairs (λ a b. a.line < b.line) phase.lines
  pub round : IfSome phase.round (λ r. All (IsBesideRound r) phase.lines)

-- the number of each line of a phase is such, that of its round too
pub record AllNumbers (P : ℕ → Type 0) (phase : Phase) : Type 0 where
  pub lines : All (λ l. P l.line) phase.lines
  pub round : IfSome phase.round (λ r. P r.line)

-- a phase is no later than another, and the number of each of its lines is less than that of each line of the other
pub record IsBefore (phase later : Phase) : Type 0 where
  pub moment : phase.at.0 ≤ later.at.0
  pub numbers : AllNumbers (λ n. AllNumbers (λ m. n < m) later) phase

-- there are at most 256 actors, no two of them the same; the phases are phases, and each is before each that follows
pub record IsScript (script : Script) : Type 0 where
  pub few : length script.actors ≤ 256
  pub distinct : AllPairs (λ a b. a ≢ b) script.actors
  pub phases : All (IsPhase script.actors) script.phases
  pub order : AllPairs IsBefore script.phases
