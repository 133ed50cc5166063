-- Where the run of a scenario stands, and what each phase adds to it.
use Rattle.std.specs.Prelude.{◌≡◌, ℕ, List, [], ◌++◌, Option}
use Rattle.std.specs.Option.{option_to_list}
use Rattle.disk_trait.specs.Past.{Past}
use Rattle.bbs_board.specs.Doubts.{doubts_in}
use Rattle.bbs_board.specs.View.{View}
use Rattle.convergence.specs.declared.report.Report.{Report}
use Rattle.scenario_lines.specs.declared.answered.Answered.{Answered}
use Rattle.scenario_lines.specs.declared.script.Phase.{Phase}
use Rattle.scenario_lines.specs.declared.script.Script.{Script}
use Rattle.phase_actors.specs.declared.actor_state.ActorState.{ActorState}
use Rattle.phase_runs.specs.Phases.{PhaseRan}
use Rattle.phase_text.specs.Sorting.{by_line}
use Rattle.scenario_player.specs.Actors.{starting_actors}
use Rattle.scenario_player.specs.Wordings.{Wording}

-- the actors and the board as they are, and the answers, the reports and the text so far
pub record RunCourse (D : Type 0) : Type 0 where
  pub actors : List ActorState
  pub board : View D
  pub answers : List Answered
  pub reports : List Report
  pub text : List ℕ

-- as a scenario begins on a board
abbrev pub beginning : {D : Type 0} → Script → View D → RunCourse D
beginning script v = record { actors = starting_actors script.actors; board = v; answers = []; reports = []; text = [] }

-- a phase ran whole behind phases in which the disk never failed, and is told with its answers by line and its report
pub record PlaysPhase {D : Type 0} (told : D → Option Past) (wording : Wording) (script : Script) (phase : Phase)
    (s s' : RunCourse D) : Type 0 where
  pub calm : doubts_in s.board.log ≡ 0
  pub parts : List (List Answered)
  pub report : Option Report
  pub ran : PhaseRan told phase s.actors s'.actors parts report s.board s'.board
  pub answers : s'.answers ≡ s.answers ++ by_line parts
  pub reports : s'.reports ≡ s.reports ++ option_to_list report
  pub text : s'.text ≡ s.text ++ wording script phase (by_line parts) report s'.board.base s.board.log s'.board.log
