-- What a run means: what it promises of its answers and its reports, beside what the board promises of the disk.
use Rattle.std.specs.Prelude.{◌≡◌, ◌⊎◌, ℕ, ◌<◌, false, List, [], ◌∷◌, ◌++◌, length, Some}
use Rattle.std.specs.List.{Contains}
use Rattle.bbs_board.specs.Doubts.{doubts_in}
use Rattle.bbs_laws.specs.Laws.{CompletesOnce}
use Rattle.bbs_model.specs.Replay.{rows_at}
use Rattle.bbs_model.specs.declared.item.Item.{Item}
use Rattle.bbs_model.specs.declared.rows.Rows.{Rows}
use Rattle.converge_laws.specs.Converged.{IsConverged}
use Rattle.convergence.specs.declared.report.Report.{Report}
use Rattle.converge_round.specs.Each.{Each}
use Rattle.program_ends.specs.declared.ending.Ending.{Ending}
use Rattle.program_ends.specs.declared.ending.Ending.TheVariants as ending
use Rattle.round_theorem.specs.Complete.{IsComplete}
use Rattle.scenario_lines.specs.declared.answered.Answered.{Answered}
use Rattle.scenario_lines.specs.declared.script.Phase.{Phase}
use Rattle.scenario_lines.specs.declared.script.RoundLine.{RoundLine}
use Rattle.scenario_lines.specs.declared.script.Script.{Script}
use Rattle.phase_actors.specs.Runs.{is_starved_end}
use Rattle.scenario_player.specs.Actors.{starting_actors}
use Rattle.run_theorem.specs.Answers.{IsServedWhereLegal, IsTrueOf}
use Rattle.run_theorem.specs.Cuts.{PhaseIsCut}
use Rattle.run_theorem.specs.Phases.{Point, PhaseAgrees}

-- the next phase was cut off
pub record NextIsCut (base : Rows) (log : List Item) (rest : List Phase) (s : Point) : Type 0 where
  pub phase : Phase
  pub more : List Phase
  pub split : rest ≡ phase ∷ more
  pub cut : PhaseIsCut base log phase s

-- where a run ends. With status 0 all phases ended and nothing is in doubt; with 5 something is in doubt; with both and
-- with 4 nothing is behind the phases that ended. With 7 nothing is either, or the next phase was cut off
abbrev pub RunEndsAt : Ending → Rows → List Item → List Phase → Point → Type 0
RunEndsAt ending.Done base log rest s = (s.place ≡ length log) × (rest ≡ []) × (doubts_in log ≡ 0)
RunEndsAt ending.Doubt base log rest s = (s.place ≡ length log) × (0 < doubts_in log)
RunEndsAt ending.Unwritten base log rest s = s.place ≡ length log
RunEndsAt ending.OutOfMemory base log rest s = (s.place ≡ length log) ⊎ NextIsCut base log rest s
RunEndsAt other base log rest s = ⊥

-- where a scenario begins: at the first place of the log, with no answers
abbrev pub outset : Script → Point
outset script = record { actors = starting_actors script.actors; place = 0; answers = []; reports = [] }

-- the log is a shuffle of what the actors and the rounds did, phase after phase: the first phases ended, each with its
-- stretch of the log behind that of the one before, and the answers and the reports are theirs
pub record IsShuffle (script : Script) (how : Ending) (answers : List Answered) (reports : List Report) (base : Rows)
    (log : List Item) : Type 0 where
  pub ended : List Phase
  pub rest : List Phase
  pub split : script.phases ≡ ended ++ rest
  pub last : Point
  pub each : Each (PhaseAgrees base log) ended (outset script) last
  pub answers_are : answers ≡ last.answers
  pub reports_are : reports ≡ last.reports
  pub ends : RunEndsAt how base log rest last

-- the board and the cells were as they should be where this round ended, at the moment of its phase
pub record HasConverged (script : Script) (base : Rows) (log : List Item) (r : Report) : Type 0 where
  pub phase : Phase
  pub among : Contains script.phases phase
  pub line : RoundLine
  pub round : phase.round ≡ Some line
  pub line_is : r.line ≡ line.line
  pub converged : IsConverged (rows_at base log r.end) r.stores.value phase.at

-- For every interleaving, and every lost or repeated call: each reply is the step's at its place of the log; a legal
-- command is refused only for a fault of the disk (or for memory, and then nothing is told of its phase); the log is a
-- shuffle of what the actors and the rounds did; no task completes twice; each complete round leaves exactly one
-- ordinary live or backing-off instance per desired index and none undesired.
pub record IsFaithful (script : Script) (how : Ending) (answers : List Answered) (reports : List Report) (base : Rows)
    (log : List Item) : Type 0 where
  pub replies : (a : Answered) → Contains answers a → IsTrueOf base log a
  pub refused : (a : Answered) → Contains answers a → IsServedWhereLegal base log a
  pub fed : (a : Answered) → Contains answers a → is_starved_end a.end ≡ false
  pub order : IsShuffle script how answers reports base log
  pub once : (birth : ℕ) → CompletesOnce base log birth
  pub rounds : (r : Report) → Contains reports r → IsComplete r → HasConverged script base log r
