-- How the run of a scenario ends.
use Rattle.std.specs.Prelude.{◌≡◌, ◌⊎◌, ℕ, ◌<◌, ◌-◌, true, false, List, [], ◌∷◌, ◌++◌, length, Option}
use Rattle.disk_trait.specs.Past.{Past}
use Rattle.bbs_board.specs.Doubts.{doubts_in}
use Rattle.bbs_board.specs.View.{View, rows_of}
use Rattle.convergence.specs.declared.report.Report.{Report}
use Rattle.record_print.specs.Printed.{line_text, summary_data}
use Rattle.record_print.specs.declared.summary.Summary.{Summary}
use Rattle.scenario_lines.specs.declared.answered.Answered.{Answered}
use Rattle.scenario_lines.specs.declared.script.Phase.{Phase}
use Rattle.scenario_lines.specs.declared.script.Script.{Script}
use Rattle.phase_actors.specs.declared.actor_state.ActorState.{ActorState}
use Rattle.converge_round.specs.Each.{Each}
use Rattle.phase_runs.specs.Phases.{PhaseCut, PhaseRan}
use Rattle.program_ends.specs.Ports.{PrintsTo}
use Rattle.program_ends.specs.declared.ending.Ending.{Ending}
use Rattle.program_ends.specs.declared.ending.Ending.TheVariants as ending
use Rattle.scenario_player.specs.Courses.{PlaysPhase, RunCourse, beginning}
use Rattle.scenario_player.specs.Wordings.{Wording}

-- the counts of a run on a board that had done nothing before, of which so many phases ran
abbrev pub summary_of : {D : Type 0} → View D → ℕ → Summary
summary_of w phases = record {
  done = length w.log - doubts_in w.log;
  doubts = doubts_in w.log;
  next = (rows_of w).next;
  phases = phases;
}

-- what is printed behind the text of the phases
abbrev pub summary_words : {D : Type 0} → RunCourse D → ℕ → List ℕ
summary_words s phases = line_text (summary_data (summary_of s.board phases))

-- the whole text of a run
abbrev pub run_words : {D : Type 0} → RunCourse D → ℕ → List ℕ
run_words s phases = s.text ++ summary_words s phases

-- the first phases ran whole, one after another, and these are the others
pub record RanFirst {D : Type 0} (told : D → Option Past) (wording : Wording) (script : Script) (v : View D)
    (ran rest : List Phase) (s : RunCourse D) : Type 0 where
  pub split : script.phases ≡ ran ++ rest
  pub each : Each (PlaysPhase told wording script) ran (beginning script v) s

-- these phases ran, the board is as the last of them left it, and so are the answers and the reports
pub record EndsAt {D : Type 0} (told : D → Option Past) (wording : Wording) (script : Script) (answers : List Answered)
    (reports : List Report) (v w : View D) (ran rest : List Phase) (s : RunCourse D) : Type 0 where
  pub first : RanFirst told wording script v ran rest s
  pub board : w ≡ s.board
  pub answers_are : answers ≡ s.answers
  pub reports_are : reports ≡ s.reports

-- why no further phase ran: there was none, and the disk never failed; or it failed in the last one
abbrev pub IsPlayedOut : Ending → List Phase → ℕ → Type 0
IsPlayedOut ending.Done rest doubts = (rest ≡ []) × (doubts ≡ 0)
IsPlayedOut ending.Doubt rest doubts = 0 < doubts
IsPlayedOut other rest doubts = ⊥

-- no further phase was to run, and the whole text was printed
pub record PlaysWhole {D : Type 0} (told : D → Option Past) (wording : Wording) (script : Script) (how : Ending)
    (answers : List Answered) (reports : List Report) (v w : View D)
    (held held' : Option (List ℕ)) (faults faults' : ℕ) : Type 0 where
  pub ran : List Phase
  pub rest : List Phase
  pub last : RunCourse D
  pub ends : EndsAt told wording script answers reports v w ran rest last
  pub over : IsPlayedOut how rest (doubts_in w.log)
  pub prints : PrintsTo true (run_words last (length ran)) held held' faults faults'

-- a text was printed whole, and what stands behind it up to a fault of the sink
pub record PrintsPart (first behind : List ℕ) (held held' : Option (List ℕ)) (faults faults' : ℕ) : Type 0 where
  pub mid : Option (List ℕ)
  pub whole : PrintsTo true first held mid faults faults
  pub part : PrintsTo false behind mid held' faults faults'

-- no further phase was to run, and the sink failed in the summary
pub record PlaysUnsummed {D : Type 0} (told : D → Option Past) (wording : Wording) (script : Script)
    (answers : List Answered) (reports : List Report) (v w : View D)
    (held held' : Option (List ℕ)) (faults faults' : ℕ) : Type 0 where
  pub ran : List Phase
  pub rest : List Phase
  pub last : RunCourse D
  pub ends : EndsAt told wording script answers reports v w ran rest last
  pub over : IsPlayedOut ending.Done rest (doubts_in w.log) ⊎ IsPlayedOut ending.Doubt rest (doubts_in w.log)
  pub prints : PrintsPart last.text (summary_words last (length ran)) held held' faults faults'

-- the sink failed in the text of this phase, which is the last that ran
pub record PlaysPart {D : Type 0} (told : D → Option Past) (wording : Wording) (script : Script)
    (answers : List Answered) (reports : List Report) (v w : View D)
    (held held' : Option (List ℕ)) (faults faults' : ℕ) : Type 0 where
  pub ran : List Phase
  pub phase : Phase
  pub rest : List Phase
  pub before : RunCourse D
  pub last : RunCourse D
  pub first : RanFirst told wording script v ran (phase ∷ rest) before
  pub plays : PlaysPhase told wording script phase before last
  pub board : w ≡ last.board
  pub answers_are : answers ≡ last.answers
  pub reports_are : reports ≡ last.reports
  pub words : List ℕ
  pub words_are : last.text ≡ before.text ++ words
  pub prints : PrintsPart before.text words held held' faults faults'

-- a phase was cut off, or ran and could not be told
abbrev pub IsUntold : {D : Type 0} → (D → Option Past) → Phase → List ActorState → View D → View D → Type 0
IsUntold told phase olds v w = PhaseCut told phase olds v w
    ⊎ ((news : List ActorState) × (parts : List (List Answered)) × (report : Option Report)
    × PhaseRan told phase olds news parts report v w)

-- behind phases in which the disk never failed the next one was cut off, or ran and could not be told
pub record IsCutIn {D : Type 0} (told : D → Option Past) (s : RunCourse D) (rest : List Phase)
    (w : View D) : Type 0 where
  pub calm : doubts_in s.board.log ≡ 0
  pub phase : Phase
  pub more : List Phase
  pub split : rest ≡ phase ∷ more
  pub untold : IsUntold told phase s.actors s.board w

-- memory ran out behind whole phases, whose text was printed; of what was done since nothing is told
pub record PlaysCut {D : Type 0} (told : D → Option Past) (wording : Wording) (script : Script)
    (answers : List Answered) (reports : List Report) (v w : View D)
    (held held' : Option (List ℕ)) (faults faults' : ℕ) : Type 0 where
  pub ran : List Phase
  pub rest : List Phase
  pub last : RunCourse D
  pub first : RanFirst told wording script v ran rest last
  pub board : (w ≡ last.board) ⊎ IsCutIn told last rest w
  pub answers_are : answers ≡ last.answers
  pub reports_are : reports ≡ last.reports
  pub prints : PrintsTo true last.text held held' faults faults'

-- how the run of a scenario on a board ends
abbrev pub Plays : {D : Type 0} → (D → Option Past) → Wording → Script → Ending → List Answered → List Report →
    View D → View D → Option (List ℕ) → Option (List ℕ) → ℕ → ℕ → Type 0
Plays told wording script ending.Done answers reports v w held held' faults faults' =
    PlaysWhole told wording script ending.Done answers reports v w held held' faults faults'
Plays told wording script ending.Doubt answers reports v w held held' faults faults' =
    PlaysWhole told wording script ending.Doubt answers reports v w held held' faults faults'
Plays told wording script ending.Unwritten answers reports v w held held' faults faults' =
    PlaysPart told wording script answers reports v w held held' faults faults'
    ⊎ PlaysUnsummed told wording script answers reports v w held held' faults faults'
Plays told wording script ending.OutOfMemory answers reports v w held held' faults faults' =
    PlaysCut told wording script answers reports v w held held' faults faults'
Plays told wording script other answers reports v w held held' faults faults' = ⊥
