-- What the run of a scenario comes to whose phases are serial.
use Rattle.std.specs.Prelude.{◌≡◌, ◌⊎◌, ℕ, true, false, List, ◌++◌, Option}
use Rattle.byte_ports.specs.Cause.{Rose}
use Rattle.disk_trait.specs.Past.{Past}
use Rattle.disk_trait.specs.Steps.{Goes}
use Rattle.bbs_board.specs.Doubts.{doubts_in}
use Rattle.bbs_board.specs.View.{View, rows_of}
use Rattle.bbs_board.specs.Written.{WritesOn}
use Rattle.convergence.specs.declared.report.Report.{Report}
use Rattle.program_ends.specs.Ports.{PrintsTo}
use Rattle.program_ends.specs.declared.ending.Ending.{Ending}
use Rattle.program_ends.specs.declared.ending.Ending.TheVariants as ending
use Rattle.scenario_lines.specs.declared.answered.Answered.{Answered}
use Rattle.scenario_lines.specs.declared.script.Phase.{Phase}
use Rattle.scenario_lines.specs.declared.script.Script.{Script}
use Rattle.scenario_reader.specs.Facts.{IsScript}
use Rattle.scenario_player.specs.Plays.{Plays}
use Rattle.scenario_player.specs.Wordings.{Wording}
use Rattle.run_function.specs.Scripts.{IsSerialScript, board_at, first_alone, items_alone, script_alone, words_alone}

-- the answers, the reports, the text and the log are what the script and the board come to; and where nothing waited
-- to be mended, the disk reads as it did, with the new items written behind
pub record IsRunAlone {D : Type 0} (told : D → Option Past) (wording : Wording) (script : Script) (answers : List Answered)
    (reports : List Report) (v w : View D) (held held' : Option (List ℕ)) (faults faults' : ℕ) : Type 0 where
  pub answers_are : answers ≡ (script_alone wording script (board_at v)).answers
  pub reports_are : reports ≡ (script_alone wording script (board_at v)).reports
  pub prints : PrintsTo true (words_alone wording script (board_at v)) held held' faults faults'
  pub board : board_at w ≡ (script_alone wording script (board_at v)).board
  pub grows : w.log ≡ v.log ++ items_alone wording script (board_at v)
  pub writes : v.waits ≡ false
      → (w.waits ≡ false) × Goes (told v.disk) (told w.disk) (WritesOn (rows_of v) (items_alone wording script (board_at v)))

-- each run of serial phases that ends well is such
abbrev pub RunsAreAlone : {D : Type 0} → (D → Option Past) → Type 0
RunsAreAlone {D = D} told =
    (wording : Wording) (script : Script) (answers : List Answered) (reports : List Report) (v w : View D)
    (held held' : Option (List ℕ)) (faults faults' : ℕ) → IsScript script → IsSerialScript script →
    Plays told wording script ending.Done answers reports v w held held' faults faults' →
    IsRunAlone told wording script answers reports v w held held' faults faults'

-- behind the first phases memory ran out: their answers, reports and text are what they come to on the board
pub record IsCutAlone {D : Type 0} (wording : Wording) (script : Script) (answers : List Answered)
    (reports : List Report) (v : View D) (held held' : Option (List ℕ)) (faults faults' : ℕ) : Type 0 where
  pub ran : List Phase
  pub rest : List Phase
  pub split : script.phases ≡ ran ++ rest
  pub answers_are : answers ≡ (first_alone wording script ran (board_at v)).answers
  pub reports_are : reports ≡ (first_alone wording script ran (board_at v)).reports
  pub prints : PrintsTo true (first_alone wording script ran (board_at v)).text held held' faults faults'

-- a run ends in one of these two ways
abbrev pub EndsAlone : {D : Type 0} → (D → Option Past) → Wording → Script → Ending → List Answered → List Report →
    View D → View D → Option (List ℕ) → Option (List ℕ) → ℕ → ℕ → Type 0
EndsAlone told wording script how answers reports v w held held' faults faults' =
    ((how ≡ ending.Done) × IsRunAlone told wording script answers reports v w held held' faults faults')
    ⊎ ((how ≡ ending.OutOfMemory) × IsCutAlone wording script answers reports v held held' faults faults')

-- so does each run of serial phases in which neither the disk nor the sink failed
abbrev pub RunsEndAlone : {D : Type 0} → (D → Option Past) → Type 0
RunsEndAlone {D = D} told =
    (wording : Wording) (script : Script) (how : Ending) (answers : List Answered) (reports : List Report) (v w : View D)
    (held held' : Option (List ℕ)) (faults faults' : ℕ) → IsScript script → IsSerialScript script →
    Plays told wording script how answers reports v w held held' faults faults' →
    doubts_in w.log ≡ 0 → (Rose faults faults' → ⊥) →
    EndsAlone told wording script how answers reports v w held held' faults faults'
