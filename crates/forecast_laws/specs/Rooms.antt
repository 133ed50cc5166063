-- What is promised of a round by a plan that finds room.
use Rattle.std.specs.Prelude.{◌≡◌, ℕ, List, [], map}
use Rattle.std.specs.List.{Contains}
use Rattle.bbs_model.specs.PortView.{rows_seen}
use Rattle.bbs_model.specs.declared.command.Command.{Command}
use Rattle.bbs_model.specs.declared.verdict.BoardRefusal.{BoardRefusal}
use Rattle.cell_records.specs.declared.job.Job.{Job}
use Rattle.convergence.specs.declared.report.Report.{Report}
use Rattle.converge_laws.specs.Converged.{IsConverged}
use Rattle.converge_round.specs.Askings.{StandApart}
use Rattle.converge_round.specs.Reps.{names_of}
use Rattle.converge_round.specs.Rounds.{Standing, IsRound}
use Rattle.crash_backoff.specs.declared.moment.Moment.{Moment}
use Rattle.forecast_records.specs.declared.verdict.Verdict.TheVariants.{Room}
use Rattle.round_completeness.specs.Completeness.{EachAnswers, LosesNothing}
use Rattle.round_theorem.specs.Complete.{IsComplete}
use Rattle.round_theorem.specs.Lacks.{IsLack}
use Rattle.what_if.specs.Plans.{left_of, verdict_of_loss}
use Rattle.what_if.specs.Waiting.{displaced}
use Rattle.what_if.specs.declared.site.Site.{Site}
use Rattle.forecast_laws.specs.Plans.{ReadsTheSite}

-- the round reports without a place just the jobs that the plan leaves, in the same order
abbrev pub RoundsLeaveWhatPlansLeave : Type 0
RoundsLeaveWhatPlansLeave = (by : ℕ) (now : Moment) (line : ℕ) (s s' : Standing) (r : Report)
    (h : IsRound by now line s s' r) (site : Site) (lost : List (List ℕ)) →
    ReadsTheSite site lost h.opening_is.places → r.unplaced ≡ map (λ j. j.job) (left_of site lost)

-- where the plan leaves no job, the round reports none without a place
abbrev pub RoomLeavesNothingWaiting : Type 0
RoomLeavesNothingWaiting = (by : ℕ) (now : Moment) (line : ℕ) (s s' : Standing) (r : Report)
    (h : IsRound by now line s s' r) (site : Site) (lost : List (List ℕ)) →
    ReadsTheSite site lost h.opening_is.places → left_of site lost ≡ [] → r.unplaced ≡ []

-- where the verdict of the loss is room, none of the displaced jobs is reported without a place
abbrev pub DisplacedJobsFindRoom : Type 0
DisplacedJobsFindRoom = (by : ℕ) (now : Moment) (line : ℕ) (s s' : Standing) (r : Report)
    (h : IsRound by now line s s' r) (site : Site) (lost : List (List ℕ)) →
    ReadsTheSite site lost h.opening_is.places → verdict_of_loss site lost ≡ Room →
    (j : Job) → Contains (displaced site lost) j → Contains r.unplaced j.job → ⊥

-- the round is undisturbed in all but, perhaps, room for its jobs
pub record IsOtherwiseUndisturbed (by : ℕ) (now : Moment) (line : ℕ) (s s' : Standing) (r : Report)
    (h : IsRound by now line s s' r) : Type 0 where
  -- the names of the reps differ
  pub names : StandApart (names_of s.reps)
  -- each cell that is present has an answer
  pub answer : EachAnswers s.reps (rows_seen h.opens.first) now
  -- the wire loses nothing
  pub wire : LosesNothing s.wire s'.wire
  -- nobody else moves the board
  pub alone : r.foreign ≡ 0
  -- no refusal says that the board has no room left
  pub room : (x : Command × BoardRefusal) → Contains r.refused x → IsLack x.1 → ⊥

-- the report is complete, and all is as it should be by the rows that the round saw last and what the reps answer then
pub record EndsWell (now : Moment) (s' : Standing) (r : Report) : Type 0 where
  pub complete : IsComplete r
  pub converged : IsConverged (rows_seen s'.view) r.stores.value now

-- where the plan leaves no job, a round that is otherwise undisturbed ends well
abbrev pub RoomMakesRoundsComplete : Type 0
RoomMakesRoundsComplete = (by : ℕ) (now : Moment) (line : ℕ) (s s' : Standing) (r : Report)
    (h : IsRound by now line s s' r) (site : Site) (lost : List (List ℕ)) →
    ReadsTheSite site lost h.opening_is.places → left_of site lost ≡ [] →
    IsOtherwiseUndisturbed by now line s s' r h → EndsWell now s' r
