-- The run of a scenario whose phases are serial.
use Rattle.std.specs.Prelude.{ℕ, ◌-◌, List, [], ◌∷◌, ◌++◌, length, drop}
use Rattle.std.specs.List.{Contains}
use Rattle.std.specs.Option.{option_to_list}
use Rattle.bbs_board.specs.Doubts.{doubts_in}
use Rattle.bbs_board.specs.View.{View}
use Rattle.bbs_model.specs.declared.item.Item.{Item}
use Rattle.convergence.specs.declared.report.Report.{Report}
use Rattle.phase_text.specs.Sorting.{by_line}
use Rattle.record_print.specs.Printed.{line_text, summary_data}
use Rattle.record_print.specs.declared.summary.Summary.{Summary}
use Rattle.scenario_lines.specs.declared.answered.Answered.{Answered}
use Rattle.scenario_lines.specs.declared.script.Phase.{Phase}
use Rattle.scenario_lines.specs.declared.script.Script.{Script}
use Rattle.phase_actors.specs.declared.actor_state.ActorState.{ActorState}
use Rattle.scenario_player.specs.Actors.{starting_actors}
use Rattle.scenario_player.specs.Wordings.{Wording}
use Rattle.run_function.specs.Boards.{SoleBoard, rows_on}
use Rattle.run_function.specs.Phases.{IsSerial, SolePhase, phase_alone}

-- each phase is serial
abbrev pub IsSerialScript : Script → Type 0
IsSerialScript script = (phase : Phase) → Contains script.phases phase → IsSerial phase

-- a board as it is
abbrev pub board_at : {D : Type 0} → View D → SoleBoard
board_at v = record { base = v.base; log = v.log }

-- the actors, the board, and the answers, the reports and the text so far
pub record SoleCourse : Type 0 where
  pub actors : List ActorState
  pub board : SoleBoard
  pub answers : List Answered
  pub reports : List Report
  pub text : List ℕ

-- as a scenario begins on a board
abbrev pub begun_alone : Script → SoleBoard → SoleCourse
begun_alone script b = record { actors = starting_actors script.actors; board = b; answers = []; reports = []; text = [] }

-- what is told of a phase on a board
abbrev pub told_alone : Wording → Script → Phase → SoleBoard → SolePhase → List ℕ
told_alone wording script phase b p =
    wording script phase (by_line p.parts) p.report p.board.base b.log p.board.log

-- a phase behind the others, with its answers, its report and its text
abbrev pub behind_phase : Wording → Script → Phase → SoleCourse → SolePhase → SoleCourse
behind_phase wording script phase s p = record {
  actors = p.actors;
  board = p.board;
  answers = s.answers ++ by_line p.parts;
  reports = s.reports ++ option_to_list p.report;
  text = s.text ++ told_alone wording script phase s.board p;
}

-- phases in order
abbrev pub phases_alone : Wording → Script → List Phase → SoleCourse → SoleCourse
phases_alone wording script [] s = s
phases_alone wording script (p ∷ ps) s =
    phases_alone wording script ps (behind_phase wording script p s (phase_alone p s.actors s.board))

-- the first phases of a scenario on a board
abbrev pub first_alone : Wording → Script → List Phase → SoleBoard → SoleCourse
first_alone wording script ps b = phases_alone wording script ps (begun_alone script b)

-- the run of a scenario on a board
abbrev pub script_alone : Wording → Script → SoleBoard → SoleCourse
script_alone wording script b = first_alone wording script script.phases b

-- the items that it adds to the log
abbrev pub items_alone : Wording → Script → SoleBoard → List Item
items_alone wording script b = drop (length b.log) (script_alone wording script b).board.log

-- the counts of a run of so many phases
abbrev pub summary_alone : SoleBoard → ℕ → Summary
summary_alone b phases = record {
  done = length b.log - doubts_in b.log;
  doubts = doubts_in b.log;
  next = (rows_on b).next;
  phases = phases;
}

-- the whole text of a run
abbrev pub words_alone : Wording → Script → SoleBoard → List ℕ
words_alone wording script b =
    let last = script_alone wording script b in
    last.text ++ line_text (summary_data (summary_alone last.board (length script.phases)))
