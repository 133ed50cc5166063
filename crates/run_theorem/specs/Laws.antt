-- The laws of runs.
use Rattle.std.specs.Prelude.{◌≡◌, ◌≢◌, ℕ, suc, ◌<◌, ◌==◌, List, [], ◌∷◌, filter, map, Option, Some}
use Rattle.std.specs.List.{Contains, slice_get}
use Rattle.disk_trait.specs.Past.{Past}
use Rattle.bbs_board.specs.View.{View, IsFresh}
use Rattle.bbs_model.specs.Calls.{by_of}
use Rattle.bbs_model.specs.Replay.{IsLawful}
use Rattle.bbs_model.specs.Valid.{IsValid}
use Rattle.bbs_model.specs.declared.item.Item.{Item}
use Rattle.bbs_model.specs.declared.rows.Rows.{Rows}
use Rattle.cell_rep.specs.declared.rep.CellRep.{CellRep}
use Rattle.convergence.specs.declared.report.Report.{Report}
use Rattle.converge_round.specs.Askings.{StandApart}
use Rattle.converge_round.specs.Each.{Each}
use Rattle.converge_round.specs.Reps.{names_of}
use Rattle.phase_runs.specs.Reps.{reps_of}
use Rattle.program_ends.specs.declared.ending.Ending.{Ending}
use Rattle.scenario_lines.specs.declared.actor.Actor.{Actor}
use Rattle.scenario_lines.specs.declared.answered.Answered.{Answered}
use Rattle.scenario_lines.specs.declared.script.Phase.{Phase}
use Rattle.scenario_lines.specs.declared.script.Script.{Script}
use Rattle.scenario_reader.specs.Facts.{IsScript}
use Rattle.phase_text.specs.Sorting.{by_line}
use Rattle.scenario_player.specs.Plays.{Plays}
use Rattle.scenario_player.specs.Wordings.{Wording}
use Rattle.run_theorem.specs.Answers.{answer_items, board_answer, place_named}
use Rattle.run_theorem.specs.Ends.{IsTimely}
use Rattle.run_theorem.specs.Headline.{IsFaithful, outset}
use Rattle.run_theorem.specs.Phases.{PhaseAgrees, Point}

-- a scenario that was played on a board that had done nothing is faithful, whatever its end and its disk
abbrev pub PlayedRunsAreFaithful : {D : Type 0} → (D → Option Past) → Type 0
PlayedRunsAreFaithful {D = D} told =
    (wording : Wording) (script : Script) (how : Ending) (answers : List Answered) (reports : List Report)
    (v w : View D) (held held' : Option (List ℕ)) (faults faults' : ℕ) → IsScript script → v.log ≡ [] → IsValid v.base →
    IsLawful v.base w.log → Plays told wording script how answers reports v w held held' faults faults' →
    IsFaithful script how answers reports v.base w.log

-- a scenario that was played on a board that had done nothing: its phases ended one after another, by the disk's clock
abbrev pub PlayedPhasesEndInTime : {D : Type 0} → (D → Option Past) → Type 0
PlayedPhasesEndInTime {D = D} told =
    (wording : Wording) (script : Script) (how : Ending) (answers : List Answered) (reports : List Report)
    (v w : View D) (held held' : Option (List ℕ)) (faults faults' : ℕ) → IsScript script → IsFresh v → IsValid v.base →
    IsLawful v.base w.log → Plays told wording script how answers reports v w held held' faults faults' →
    IsTimely script how answers reports v.base w.log w.marks (told v.disk) (told w.disk)

-- the board was opened with the rows that it was opened with
abbrev pub PlayedRunsKeepBase : {D : Type 0} → (D → Option Past) → Type 0
PlayedRunsKeepBase {D = D} told =
    (wording : Wording) (script : Script) (how : Ending) (answers : List Answered) (reports : List Report)
    (v w : View D) (held held' : Option (List ℕ)) (faults faults' : ℕ) →
    Plays told wording script how answers reports v w held held' faults faults' → w.base ≡ v.base

-- an answer among these that made the item, and names its place
pub record IsAnswered (answers : List Answered) (place : ℕ) (i : Item) : Type 0 where
  pub answer : Answered
  pub among : Contains answers answer
  pub item : answer_items answer ≡ i ∷ []
  pub place_is : place_named 0 (board_answer answer.end) ≡ place

-- each item of the phases that ended is that of an answer, unless it has the number of rounds
abbrev pub ItemsAreAnswered : Type 0
ItemsAreAnswered =
    (script : Script) (how : Ending) (answers : List Answered) (reports : List Report) (base : Rows) (log : List Item)
    (run : IsFaithful script how answers reports base log) (place : ℕ) (i : Item) → place < run.order.last.place →
    slice_get log place ≡ Some i → by_of i ≢ 0 → IsAnswered answers place i

-- the answers that bear a number
abbrev pub answers_by : ℕ → List Answered → List Answered
answers_by by answers = filter (λ a. a.actor == by) answers

-- among the answers of a phase, which stand by line, those of each actor are its own, in their order
abbrev pub ActorsAnswersStand : Type 0
ActorsAnswersStand =
    (script : Script) (phase : Phase) (base : Rows) (log : List Item) (s s' : Point)
    (agrees : PhaseAgrees base log phase s s') → IsScript script → Contains script.phases phase →
    (k : ℕ) (part : List Answered) → slice_get agrees.parts k ≡ Some part →
    answers_by (suc k) (by_line agrees.parts) ≡ part

-- the names of the cells among actors, in their order
abbrev pub cells_among : List Actor → List (List ℕ)
cells_among actors = map (λ a. a.name) (filter (λ a. a.cell) actors)

-- the reps are those of the scenario's cells: one for each, in their order, and no two have one name
pub record AreItsCells (script : Script) (reps : List CellRep) : Type 0 where
  pub names : names_of reps ≡ cells_among script.actors
  pub apart : StandApart (names_of reps)

-- of each of these phases, which agree one after another, the round goes over the reps of the scenario's cells
abbrev pub GoOverItsCells : (script : Script) (base : Rows) (log : List Item) (phases : List Phase) (s t : Point) →
    Each (PhaseAgrees base log) phases s t → Type 0
GoOverItsCells script base log [] s t each = Unit {0}
GoOverItsCells script base log (phase ∷ phases) s t each =
    AreItsCells script (reps_of each.1.mids) × GoOverItsCells script base log phases each.0 t each.2

-- so it is with each phase of a run that ended
abbrev pub RoundsGoOverItsCells : Type 0
RoundsGoOverItsCells =
    (script : Script) (how : Ending) (answers : List Answered) (reports : List Report) (base : Rows) (log : List Item)
    (run : IsFaithful script how answers reports base log) → IsScript script →
    GoOverItsCells script base log run.order.ended (outset script) run.order.last run.order.each
