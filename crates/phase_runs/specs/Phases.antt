-- A whole phase: its actors, and the round behind them.
use Rattle.std.specs.Prelude.{◌≡◌, ◌≢◌, ◌⊎◌, ℕ, suc, ◌<◌, List, [], length, Option, Some, None}
use Rattle.std.specs.List.{slice_get, Contains}
use Rattle.disk_trait.specs.Past.{Past}
use Rattle.bbs_board.specs.View.{View}
use Rattle.bbs_model.specs.Calls.{by_number}
use Rattle.bbs_model.specs.PortView.{PortView}
use Rattle.bbs_model.specs.declared.command.Command.{Command}
use Rattle.bbs_model.specs.declared.item.Item.{Item}
use Rattle.bbs_model.specs.declared.item.Item.TheVariants.{Doubt}
use Rattle.bbs_model.specs.declared.rows.Rows.{Rows}
use Rattle.cell_rep.specs.declared.rep.CellRep.{CellRep}
use Rattle.convergence.specs.declared.report.Report.{Report}
use Rattle.converge_round.specs.Items.{HasItems}
use Rattle.converge_round.specs.Reps.{KeepReps}
use Rattle.crash_backoff.specs.declared.moment.Moment.{Moment}
use Rattle.scenario_lines.specs.declared.answered.Answered.{Answered}
use Rattle.scenario_lines.specs.declared.script.Phase.{Phase}
use Rattle.scenario_lines.specs.declared.script.RoundLine.{RoundLine}
use Rattle.phase_actors.specs.declared.actor_state.ActorState.{ActorState}
use Rattle.phase_runs.specs.Actors.{AreSameActors, PartCut, PartRan, SeesPhase}
use Rattle.phase_runs.specs.Boards.{BoardGoesOn}
use Rattle.phase_runs.specs.Reps.{reps_of, with_reps}
use Rattle.phase_runs.specs.Rounds.{RoundOf}

-- the report tells what the round did; where there is none, a disk fault ended it, whose doubt is in the log
abbrev pub IsToldBy : Moment → RoundLine → List CellRep → List CellRep → PortView → PortView → List Item →
    Option Report → Type 0
IsToldBy now line reps reps' v w fresh None = (c : Command) × Contains fresh (Doubt 0 c)
IsToldBy now line reps reps' v w fresh (Some r) = RoundOf now line reps reps' v w r

-- a round was held behind the actors, whose cells have its reps now
pub record HasRound (base : Rows) (before fresh : List Item) (now : Moment) (line : RoundLine)
    (mids news : List ActorState) (report : Option Report) : Type 0 where
  pub first : PortView
  pub last : PortView
  pub sees : SeesPhase base before fresh 0 first last
  pub reps : List CellRep
  pub news_are : news ≡ with_reps mids reps
  pub kept : KeepReps (reps_of mids) reps
  pub items : HasItems 0 now (reps_of mids) first last
  pub told : IsToldBy now line (reps_of mids) reps first last fresh report

-- the round of a phase, if it has one
abbrev pub RoundRan : Option RoundLine → Rows → List Item → List Item → Moment → List ActorState → List ActorState →
    Option Report → Type 0
RoundRan None base before fresh now mids news report =
    (by_number 0 fresh ≡ []) × ((news ≡ mids) × (report ≡ None))
RoundRan (Some line) base before fresh now mids news report = HasRound base before fresh now line mids news report

-- of a round over these reps that was cut off each item was asked for
pub record RoundCut (base : Rows) (before fresh : List Item) (now : Moment) (reps : List CellRep) : Type 0 where
  pub first : PortView
  pub last : PortView
  pub sees : SeesPhase base before fresh 0 first last
  pub items : HasItems 0 now reps first last

-- a round that was cut off, if the phase has one and it was begun
abbrev pub IsRoundCut : Option RoundLine → Rows → List Item → List Item → Moment → List CellRep → Type 0
IsRoundCut None base before fresh now reps = by_number 0 fresh ≡ []
IsRoundCut (Some line) base before fresh now reps = (by_number 0 fresh ≡ []) ⊎ RoundCut base before fresh now reps

-- the round of a phase alone went over a board, whose actors were these before and are those after
pub record RoundAlone {D : Type 0} (told : D → Option Past) (now : Moment) (round : Option RoundLine)
    (mids news : List ActorState) (report : Option Report) (v w : View D) : Type 0 where
  pub fresh : List Item
  pub goes : BoardGoesOn told fresh v w
  pub others : (by : ℕ) → by ≢ 0 → by_number by fresh ≡ []
  pub ran : RoundRan round v.base v.log fresh now mids news report

-- the round of a phase alone was cut off, whose actors were these before
pub record CutAlone {D : Type 0} (told : D → Option Past) (now : Moment) (round : Option RoundLine)
    (mids : List ActorState) (v w : View D) : Type 0 where
  pub fresh : List Item
  pub goes : BoardGoesOn told fresh v w
  pub others : (by : ℕ) → by ≢ 0 → by_number by fresh ≡ []
  pub cut : IsRoundCut round v.base v.log fresh now (reps_of mids)

-- a phase that ran whole: each actor did all of its lines, and the round behind them was held; each actor is the
-- client or the cell that it was, so what it can do it still can
pub record PhaseRan {D : Type 0} (told : D → Option Past) (phase : Phase) (olds news : List ActorState)
    (parts : List (List Answered)) (report : Option Report) (v w : View D) : Type 0 where
  pub fresh : List Item
  pub goes : BoardGoesOn told fresh v w
  pub mids : List ActorState
  pub count_is : length parts ≡ length olds
  pub ran : (k : ℕ) (a a' : ActorState) (answers : List Answered) → slice_get olds k ≡ Some a
      → slice_get mids k ≡ Some a' → slice_get parts k ≡ Some answers → PartRan v.base phase.at phase.lines v.log fresh (suc k) a a' answers
  pub others : (by : ℕ) → length olds < by → by_number by fresh ≡ []
  pub same : AreSameActors olds mids
  pub round : RoundRan phase.round v.base v.log fresh phase.at mids news report
  pub kept : AreSameActors olds news

-- a phase that was cut off: each actor did its lines up to some place, and the round its items up to some
pub record PhaseCut {D : Type 0} (told : D → Option Past) (phase : Phase) (olds : List ActorState)
    (v w : View D) : Type 0 where
  pub fresh : List Item
  pub goes : BoardGoesOn told fresh v w
  pub mids : List ActorState
  pub cut : (k : ℕ) (a a' : ActorState) → slice_get olds k ≡ Some a → slice_get mids k ≡ Some a'
      → PartCut v.base phase.at phase.lines v.log fresh (suc k) a a'
  pub others : (by : ℕ) → length olds < by → by_number by fresh ≡ []
  pub same : AreSameActors olds mids
  pub round : IsRoundCut phase.round v.base v.log fresh phase.at (reps_of mids)
