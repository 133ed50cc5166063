-- A phase that was cut off, or of which nothing was told: its items are the last of the log.
use Rattle.std.specs.Prelude.{◌≡◌, ℕ, suc, ◌<◌, List, [], length, take, All, Option, Some, None}
use Rattle.std.specs.List.{flat_map, slice_get}
use Rattle.bbs_board.specs.Doubts.{doubts_in}
use Rattle.bbs_model.specs.Calls.{by_number}
use Rattle.bbs_model.specs.declared.item.Item.{Item}
use Rattle.bbs_model.specs.declared.rows.Rows.{Rows}
use Rattle.cell_rep.specs.declared.rep.CellRep.{CellRep}
use Rattle.crash_backoff.specs.declared.moment.Moment.{Moment}
use Rattle.scenario_lines.specs.declared.answered.Answered.{Answered}
use Rattle.scenario_lines.specs.declared.script.Phase.{Phase}
use Rattle.scenario_lines.specs.declared.script.RoundLine.{RoundLine}
use Rattle.phase_actors.specs.Turns.{turns_in}
use Rattle.phase_actors.specs.declared.actor_state.ActorState.{ActorState}
use Rattle.phase_runs.specs.Actors.{AreSameActors}
use Rattle.phase_runs.specs.Reps.{reps_of}
use Rattle.run_theorem.specs.Actors.{DoesFirst}
use Rattle.run_theorem.specs.Answers.{answer_items, IsTrueOf, LieBetween}
use Rattle.run_theorem.specs.Phases.{between, Point, RoundAsks}

-- the actor with that number did the first of its runs: its items there are those of their answers, which have their
-- places there, and are true
pub record ActorCut (base : Rows) (log : List Item) (phase : Phase) (from upto by : ℕ) (a a' : ActorState) : Type 0 where
  pub answers : List Answered
  pub did : DoesFirst by phase.at (turns_in by phase.lines) a answers a'
  pub items : by_number by (between from upto log) ≡ flat_map answer_items answers
  pub places : LieBetween from upto answers
  pub replies : All (IsTrueOf base log) answers

-- each item of the round over these reps was asked for; without a round nobody has the number 0
abbrev pub RoundAsksIf : Option RoundLine → Rows → List Item → Moment → List CellRep → ℕ → ℕ → Type 0
RoundAsksIf None base log now reps from upto = by_number 0 (between from upto log) ≡ []
RoundAsksIf (Some line) base log now reps from upto = RoundAsks base log now reps from upto

-- a phase that began where no item was in doubt was cut off, and its items are those behind that place: each actor
-- those of the first of its runs, the round such as were asked for by what the cells then were, and nobody else any
pub record PhaseIsCut (base : Rows) (log : List Item) (phase : Phase) (s : Point) : Type 0 where
  pub calm : doubts_in (take s.place log) ≡ 0
  pub mids : List ActorState
  pub same : AreSameActors s.actors mids
  pub actors : (k : ℕ) (a a' : ActorState) → slice_get s.actors k ≡ Some a → slice_get mids k ≡ Some a' →
      ActorCut base log phase s.place (length log) (suc k) a a'
  pub round : RoundAsksIf phase.round base log phase.at (reps_of mids) s.place (length log)
  pub others : (by : ℕ) → length s.actors < by → by_number by (between s.place (length log) log) ≡ []
