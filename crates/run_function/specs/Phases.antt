-- A phase that is serial: one actor has lines and there is no round, or there is a round and nobody has lines.
use Rattle.std.specs.Prelude.{◌≡◌, ◌⊎◌, ℕ, suc, List, [], ◌∷◌, Option, Some, None}
use Rattle.std.specs.List.{Contains}
use Rattle.convergence.specs.declared.report.Report.{Report}
use Rattle.crash_backoff.specs.declared.moment.Moment.{Moment}
use Rattle.scenario_lines.specs.declared.answered.Answered.{Answered}
use Rattle.scenario_lines.specs.declared.script.Line.{Line}
use Rattle.scenario_lines.specs.declared.script.Phase.{Phase}
use Rattle.scenario_lines.specs.declared.script.RoundLine.{RoundLine}
use Rattle.phase_actors.specs.declared.actor_state.ActorState.{ActorState}
use Rattle.phase_runs.specs.Reps.{reps_of, with_reps}
use Rattle.run_function.specs.Boards.{SoleBoard}
use Rattle.run_function.specs.Turns.{SoleActor, actor_alone}
use Rattle.run_function.specs.WholeRounds.{SoleRound, round_alone}

-- each line is of the actor with that number
abbrev pub AreLinesOf : ℕ → List Line → Type 0
AreLinesOf by lines = (l : Line) → Contains lines l → l.actor ≡ by

-- one actor has lines, or a round is alone
abbrev pub IsSerial : Phase → Type 0
IsSerial phase = ((phase.round ≡ None) × (by : ℕ) × AreLinesOf by phase.lines) ⊎ (phase.lines ≡ [])

-- the actors, the board, and the answers of each actor
pub record SoleActors : Type 0 where
  pub actors : List ActorState
  pub board : SoleBoard
  pub parts : List (List Answered)

-- these three
abbrev pub sole_actors : List ActorState → SoleBoard → List (List Answered) → SoleActors
sole_actors actors board parts = record { actors = actors; board = board; parts = parts }

-- one actor before the others
abbrev pub in_front : SoleActor → SoleActors → SoleActors
in_front a s = sole_actors (a.actor ∷ s.actors) s.board (a.out ∷ s.parts)

-- the actors from that number on do their lines, one after another
abbrev pub actors_alone : ℕ → Moment → List Line → List ActorState → SoleBoard → SoleActors
actors_alone by now lines [] b = sole_actors [] b []
actors_alone by now lines (a ∷ as') b =
    let first = actor_alone by now lines a b in
    in_front first (actors_alone (suc by) now lines as' first.board)

-- what a phase leaves and tells
pub record SolePhase : Type 0 where
  pub actors : List ActorState
  pub board : SoleBoard
  pub parts : List (List Answered)
  pub report : Option Report

-- these four
abbrev pub sole_phase : List ActorState → SoleBoard → List (List Answered) → Option Report → SolePhase
sole_phase actors board parts report = record { actors = actors; board = board; parts = parts; report = report }

-- a round behind the actors, with its reps in their cells
abbrev pub behind_round : SoleActors → SoleRound → SolePhase
behind_round s r = sole_phase (with_reps s.actors r.reps) r.board s.parts (Some r.report)

-- the round of a phase, if it has one
abbrev pub phase_round : Option RoundLine → Moment → SoleActors → SolePhase
phase_round None now s = sole_phase s.actors s.board s.parts None
phase_round (Some line) now s = behind_round s (round_alone line 0 now (reps_of s.actors) s.board)

-- a phase: its actors one after another, and then its round
abbrev pub phase_alone : Phase → List ActorState → SoleBoard → SolePhase
phase_alone phase actors b = phase_round phase.round phase.at (actors_alone 1 phase.at phase.lines actors b)
