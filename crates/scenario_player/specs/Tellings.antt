-- What the code knows of the phases so far, and how one phase ends.
use Rattle.std.specs.Prelude.{◌≡◌, ◌⊎◌, ℕ, ◌+◌, ◌<◌, Bool, true, false, List, [], ◌++◌, length, Option}
use Rattle.disk_trait.specs.Past.{Past}
use Rattle.bbs_board.specs.Doubts.{doubts_in}
use Rattle.bbs_board.specs.View.{View}
use Rattle.record_print.specs.Printed.{line_text, summary_data}
use Rattle.scenario_lines.specs.declared.script.Phase.{Phase}
use Rattle.scenario_lines.specs.declared.script.Script.{Script}
use Rattle.phase_actors.specs.declared.actor_state.ActorState.{ActorState}
use Rattle.program_ends.specs.Ports.{PrintsTo}
use Rattle.program_ends.specs.declared.ending.Ending.{Ending}
use Rattle.program_ends.specs.declared.ending.Ending.TheVariants as ending
use Rattle.scenario_player.specs.Courses.{RunCourse, PlaysPhase}
use Rattle.scenario_player.specs.Plays.{IsCutIn, IsUntold, PlaysPart, RanFirst, summary_of}
use Rattle.scenario_player.specs.Kept.{KeptSoFar}
use Rattle.scenario_player.specs.Wordings.{Wording}

-- where a run stands, by what the code keeps of it and the text so far
abbrev pub run_course : {D : Type 0} → List ActorState → View D → KeptSoFar → List ℕ → RunCourse D
run_course actors v kept text = record {
  actors = actors;
  board = v;
  answers = kept.answers;
  reports = kept.reports;
  text = text;
}

-- a phase ran whole and is told with this text, whatever stands before it
abbrev pub IsPhaseTold : {D : Type 0} → (D → Option Past) → Wording → Script → Phase →
    List ActorState → List ActorState → View D → View D → KeptSoFar → KeptSoFar → List ℕ → Type 0
IsPhaseTold told wording script phase olds news v w kept kept' text =
    (before : List ℕ) → PlaysPhase told wording script phase (run_course olds v kept before)
    (run_course news w kept' (before ++ text))

-- its text is printed, whole or up to a fault of the sink
pub record TellsPhase {D : Type 0} (told : D → Option Past) (wording : Wording) (script : Script) (phase : Phase)
    (whole : Bool) (olds news : List ActorState) (v w : View D) (kept kept' : KeptSoFar)
    (held held' : Option (List ℕ)) (faults faults' : ℕ) : Type 0 where
  pub text : List ℕ
  pub is_told : IsPhaseTold told wording script phase olds news v w kept kept' text
  pub counted : kept'.phases ≡ kept.phases + 1
  pub prints : PrintsTo whole text held held' faults faults'

-- how a phase ends behind phases in which the disk never failed: it ran and its text was printed whole, and the disk
-- failed in it or not; or its text was printed up to a fault of the sink; or it is untold
abbrev pub PhaseEnds : {D : Type 0} → (D → Option Past) → Wording → Script → Phase → Ending →
    List ActorState → List ActorState → View D → View D → KeptSoFar → KeptSoFar →
    Option (List ℕ) → Option (List ℕ) → ℕ → ℕ → Type 0
PhaseEnds told wording script phase ending.Done olds news v w kept kept' held held' faults faults' =
    (doubts_in w.log ≡ 0) × TellsPhase told wording script phase true olds news v w kept kept' held held' faults faults'
PhaseEnds told wording script phase ending.Doubt olds news v w kept kept' held held' faults faults' =
    (0 < doubts_in w.log) × TellsPhase told wording script phase true olds news v w kept kept' held held' faults faults'
PhaseEnds told wording script phase ending.Unwritten olds news v w kept kept' held held' faults faults' =
    TellsPhase told wording script phase false olds news v w kept kept' held held' faults faults'
PhaseEnds told wording script phase ending.OutOfMemory olds news v w kept kept' held held' faults faults' =
    (kept' ≡ kept) × ((held' ≡ held) × ((faults' ≡ faults) × IsUntold told phase olds v w))
PhaseEnds told wording script phase other olds news v w kept kept' held held' faults faults' = ⊥

-- where the phases stop: behind the last of the script, or one in which the disk failed; or the next one is untold
abbrev pub StopsAt : {D : Type 0} → (D → Option Past) → Ending → List Phase → RunCourse D → View D →
    Option (List ℕ) → Option (List ℕ) → ℕ → ℕ → Type 0
StopsAt told ending.Done rest s w held held' faults faults' =
    (w ≡ s.board) × ((rest ≡ []) × ((doubts_in w.log ≡ 0) × PrintsTo true s.text held held' faults faults'))
StopsAt told ending.Doubt rest s w held held' faults faults' =
    (w ≡ s.board) × ((0 < doubts_in w.log) × PrintsTo true s.text held held' faults faults')
StopsAt told ending.OutOfMemory rest s w held held' faults faults' =
    IsCutIn told s rest w × PrintsTo true s.text held held' faults faults'
StopsAt told other rest s w held held' faults faults' = ⊥

-- of what is kept there are the answers and the reports of the phases so far, which are so many
pub record KeepsCourse {D : Type 0} (kept : KeptSoFar) (s : RunCourse D) (count : ℕ) : Type 0 where
  pub answers : kept.answers ≡ s.answers
  pub reports : kept.reports ≡ s.reports
  pub phases : kept.phases ≡ count

-- of the phases that ran whole each was told, and its text printed whole
pub record PhasesStop {D : Type 0} (told : D → Option Past) (wording : Wording) (script : Script) (how : Ending)
    (v w : View D) (kept : KeptSoFar) (held held' : Option (List ℕ)) (faults faults' : ℕ) : Type 0 where
  pub ran : List Phase
  pub rest : List Phase
  pub last : RunCourse D
  pub first : RanFirst told wording script v ran rest last
  pub kept_is : KeepsCourse kept last (length ran)
  pub stops : StopsAt told how rest last w held held' faults faults'

-- how the phases end: the text of the last one was printed up to a fault of the sink, or they stop behind whole texts
abbrev pub PhasesEnd : {D : Type 0} → (D → Option Past) → Wording → Script → Ending → View D → View D → KeptSoFar →
    Option (List ℕ) → Option (List ℕ) → ℕ → ℕ → Type 0
PhasesEnd told wording script ending.Unwritten v w kept held held' faults faults' =
    PlaysPart told wording script kept.answers kept.reports v w held held' faults faults'
PhasesEnd told wording script how v w kept held held' faults faults' =
    PhasesStop told wording script how v w kept held held' faults faults'

-- how a line behind a text ends: it was printed whole, and nothing changes in how all ended; or it was printed up to a
-- fault of the sink; or there was no memory for it, and nothing was printed
abbrev pub EndsBehind : Ending → Ending → List ℕ → Option (List ℕ) → Option (List ℕ) → ℕ → ℕ → Type 0
EndsBehind how how' line held held' faults faults' =
    ((how' ≡ how) × PrintsTo true line held held' faults faults')
    ⊎ (((how' ≡ ending.Unwritten) × PrintsTo false line held held' faults faults')
    ⊎ ((how' ≡ ending.OutOfMemory) × ((held' ≡ held) × (faults' ≡ faults))))

-- the summary stands behind a text that was printed whole, of a board on which so many phases ran
abbrev pub Finishes : {D : Type 0} → Ending → Ending → View D → ℕ →
    Option (List ℕ) → Option (List ℕ) → ℕ → ℕ → Type 0
Finishes ending.Done how' w phases held held' faults faults' =
    EndsBehind ending.Done how' (line_text (summary_data (summary_of w phases))) held held' faults faults'
Finishes ending.Doubt how' w phases held held' faults faults' =
    EndsBehind ending.Doubt how' (line_text (summary_data (summary_of w phases))) held held' faults faults'
Finishes other how' w phases held held' faults faults' = (how' ≡ other) × ((held' ≡ held) × (faults' ≡ faults))
