-- What a phase printed is on the disk from the moment on at which the phase ended.
use Rattle.std.specs.Prelude.{◌≡◌, ℕ, ◌+◌, List, [], ◌∷◌, All, Option, Some, Ok}
use Rattle.disk_trait.specs.Past.{Past, Image, ImagesSince}
use Rattle.bbs_model.specs.declared.item.Item.{Item}
use Rattle.bbs_model.specs.declared.reply.Reply.TheVariants as reply
use Rattle.bbs_model.specs.declared.rows.Rows.{Rows}
use Rattle.bbs_board.specs.Kept.{IsFound}
use Rattle.convergence.specs.declared.report.Report.{Report}
use Rattle.converge_round.specs.Each.{Each}
use Rattle.phase_text.specs.Sorting.{by_line}
use Rattle.program_ends.specs.declared.ending.Ending.{Ending}
use Rattle.run_theorem.specs.Answers.{board_answer}
use Rattle.run_theorem.specs.Ends.{EndInTime}
use Rattle.run_theorem.specs.Headline.{outset}
use Rattle.run_theorem.specs.Phases.{PhaseAgrees, Point}
use Rattle.scenario_lines.specs.declared.answered.Answered.{Answered}
use Rattle.scenario_lines.specs.declared.script.Phase.{Phase}
use Rattle.diego_engine.specs.Headline.{BoardTakesLog, IsFaithfulTo, KeptSince}

-- if the answer is Ok, whatever a stop left since this moment is a board that the log reaches with its item
abbrev pub IsKeptFrom : Rows → List Item → Past → ℕ → Answered → Type 0
IsKeptFrom rows log q moment a = (place stamp : ℕ) → board_answer a.end ≡ Some (Ok (reply.Ok place stamp))
    → (image : Image) → ImagesSince q moment image → IsFound rows log (place + 1) image

-- so it is with each answer that a phase tells, by line, from the moment on at which the phase ended
abbrev pub AreKeptFromEnds : (rows : Rows) (log : List Item) (marks : List ℕ) (q : Past) (from : ℕ) (phases : List Phase)
    (s t : Point) (each : Each (PhaseAgrees rows log) phases s t) → EndInTime rows log marks q from phases s t each → Type 0
AreKeptFromEnds rows log marks q from [] s t each ends = Unit {0}
AreKeptFromEnds rows log marks q from (phase ∷ phases) s t each ends =
    All (IsKeptFrom rows log q ends.0) (by_line each.1.parts)
    × AreKeptFromEnds rows log marks q ends.0 phases each.0 t each.2 ends.3

-- of each run that keeps its log the phases are kept from their ends
abbrev pub PhasesAreKeptFromTheirEnds : Type 0
PhasesAreKeptFromTheirEnds =
    (rows : Rows) (log : List Item) (marks : List ℕ) (p q : Past) (from : ℕ) (phases : List Phase) (s t : Point)
    (each : Each (PhaseAgrees rows log) phases s t) (ends : EndInTime rows log marks q from phases s t each)
    → KeptSince rows log marks p q → AreKeptFromEnds rows log marks q from phases s t each ends

-- and so they are of what a run promises, on a disk that tells its past at entry and at the end
abbrev pub RunsKeepPhasesFromTheirEnds : Type 0
RunsKeepPhasesFromTheirEnds =
    (how : Ending) (log : List Item) (marks : List ℕ) (answers : List Answered) (reports : List Report)
    (left left' : Option (List ℕ)) (told told' : Option Past) (faults faults' : ℕ)
    → BoardTakesLog log marks told told' faults faults'
    → (run : IsFaithfulTo how log marks answers reports left left' told told')
    → (p : Past) (p_is : told ≡ Some p) (q : Past) (q_is : told' ≡ Some q)
    → AreKeptFromEnds run.rows log marks q p.clock run.faithful.order.ended (outset run.script) run.faithful.order.last
    run.faithful.order.each (run.ends p p_is q q_is)
