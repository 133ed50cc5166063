-- What a serial phase does.
use Rattle.std.specs.Prelude.{◌≡◌, List, Option}
use Rattle.disk_trait.specs.Past.{Past}
use Rattle.bbs_board.specs.Doubts.{doubts_in}
use Rattle.bbs_board.specs.View.{View}
use Rattle.convergence.specs.declared.report.Report.{Report}
use Rattle.scenario_lines.specs.declared.answered.Answered.{Answered}
use Rattle.scenario_lines.specs.declared.script.Phase.{Phase}
use Rattle.phase_actors.specs.declared.actor_state.ActorState.{ActorState}
use Rattle.phase_runs.specs.Phases.{PhaseRan}
use Rattle.phase_runs.specs.Reps.{reps_of}
use Rattle.run_function.specs.Phases.{IsSerial, phase_alone, sole_phase}
use Rattle.run_function.specs.RoundLaws.{AreReps}
use Rattle.run_function.specs.Scripts.{board_at}

-- a serial phase in which the disk stored has the actors, the board, the answers and the report of one that is alone
abbrev pub PhasesAreAlone : {D : Type 0} → (D → Option Past) → Type 0
PhasesAreAlone {D = D} told = (phase : Phase) (olds news : List ActorState) (parts : List (List Answered)) (report : Option Report)
    (v w : View D) → IsSerial phase → PhaseRan told phase olds news parts report v w → doubts_in w.log ≡ 0 → AreReps (reps_of olds) →
    phase_alone phase olds (board_at v) ≡ sole_phase news (board_at w) parts report
