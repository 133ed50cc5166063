-- When a board and its cells are as the site says before cells are lost, and what the round behind the loss does then.
use Rattle.std.specs.Prelude.{◌≡◌, ◌≤◌, ◌&&◌, ℕ, true, false, not, List, [], filter, Some, None, IsSome, map}
use Rattle.std.specs.List.{All, AllZip, Contains}
use Rattle.std.specs.Ordering.{nat_cmp}
use Rattle.auctioneer.specs.Stands.{jobs_of}
use Rattle.auctioneer.specs.declared.placement.Placement.{Placement}
use Rattle.auctioneer.specs.declared.placement.Placement.TheVariants.{On}
use Rattle.bbs_model.specs.PortView.{rows_seen}
use Rattle.bbs_model.specs.Tables.{find_actual, find_task}
use Rattle.bbs_model.specs.Valid.{IsValid}
use Rattle.bbs_model.specs.Work.{has_passed, is_due, is_there, wants, work}
use Rattle.bbs_model.specs.declared.rows.Rows.{Rows}
use Rattle.cell_records.specs.declared.answer.Answer.{Answer}
use Rattle.cell_records.specs.declared.job.Job.{Job}
use Rattle.cell_records.specs.declared.job_name.JobName.{JobName}
use Rattle.cell_records.specs.declared.job_name.JobName.TheVariants as name
use Rattle.container_store.specs.Store.{IsGiven, number_of}
use Rattle.convergence.specs.Containers.{answer_from, site_of}
use Rattle.convergence.specs.Strays.{strays}
use Rattle.convergence.specs.declared.report.Report.{Report}
use Rattle.converge_laws.specs.Accepted.{AreAccepted}
use Rattle.converge_laws.specs.Laws.{after_plan}
use Rattle.converge_laws.specs.Stages.{IsCleared}
use Rattle.converge_round.specs.Places.{is_being_emptied}
use Rattle.converge_round.specs.Rounds.{Standing, IsRound}
use Rattle.crash_backoff.specs.declared.moment.Moment.{Moment}
use Rattle.diego_names.specs.declared.instance.Instance.{Instance}
use Rattle.diego_names.specs.declared.key.Key.{Key}
use Rattle.forecast_records.specs.declared.verdict.Verdict.TheVariants.{Room}
use Rattle.lrp_records.specs.declared.actual.Actual.{Actual}
use Rattle.lrp_records.specs.declared.presence.Presence.TheVariants.{Ordinary, Evacuating, Suspect}
use Rattle.lrp_records.specs.declared.state.LrpState.TheVariants as lrp
use Rattle.row_tables.specs.Table.{IsRising}
use Rattle.task_records.specs.declared.state.TaskState.TheVariants as task
use Rattle.task_records.specs.declared.task.Task.{Task}
use Rattle.what_if.specs.Plans.{left_of, plan, verdict_of_loss}
use Rattle.what_if.specs.Stays.{is_lost}
use Rattle.what_if.specs.Waiting.{displaced}
use Rattle.what_if.specs.declared.site.Site.{Site}
use Rattle.what_if.specs.declared.site.Wanted.{Wanted}
use Rattle.forecast_laws.specs.Plans.{HaveTheSame, IsReadAs}
use Rattle.forecast_laws.specs.Records.{AreRowsOf, AreAsTheSite}
use Rattle.forecast_laws.specs.Rooms.{EndsWell, IsOtherwiseUndisturbed}

-- a cell of the site, and what it answers: an auction reads the same of both, their containers that have not ended are
-- of the same jobs, and the board knows that the cell is being emptied just where the site does
pub record IsSeenAs (rows : Rows) (c x : Answer) : Type 0 where
  pub alike : IsReadAs c x
  pub jobs : HaveTheSame (jobs_of c.containers) (jobs_of x.containers)
  pub emptied : is_being_emptied rows x.cell ≡ c.evacuating

-- no instance is between two cells: no ORDINARY row names a cell that is being emptied, each EVACUATING row names one
-- that is, and no instance is suspected
pub record AreHandedOn (rows : Rows) : Type 0 where
  pub ordinary : (key : Key) (a : Actual) (instance : Instance) (cell : List ℕ) →
      find_actual rows key Ordinary ≡ Some a → site_of a.state ≡ Some (instance, cell) →
      is_being_emptied rows cell ≡ false
  pub evacuating : (key : Key) (a : Actual) (instance : Instance) (cell : List ℕ) →
      find_actual rows key Evacuating ≡ Some a → site_of a.state ≡ Some (instance, cell) →
      is_being_emptied rows cell ≡ true
  pub suspect : (key : Key) → find_actual rows key Suspect ≡ None

-- since that moment the leases of the lost cells have ended and no others, and nothing else has come due
pub record OnlyLeasesEnded (rows : Rows) (lost : List (List ℕ)) (old now : Moment) : Type 0 where
  pub later : old.0 ≤ now.0
  -- a cell is there just where it was there and isn't lost
  pub there : (cell : List ℕ) (epoch : ℕ) →
      is_there rows now cell epoch ≡ (is_there rows old cell epoch && not (is_lost lost cell))
  -- no crashed row is due
  pub crashed : (key : Key) (a : Actual) → find_actual rows key Ordinary ≡ Some a → a.state ≡ lrp.Crashed →
      wants rows key ≡ true → is_due a now ≡ false
  -- no PENDING task is too old
  pub pending : (name : List ℕ) (t : Task) → find_task rows name ≡ Some t → t.state ≡ task.Pending →
      has_passed 1800 t.since now ≡ false

-- those that answer are the cells of the site that aren't lost, each with what it kept before the loss
pub record AnswerStill (site : Site) (lost : List (List ℕ)) (rows : Rows) (got stores : List Answer) : Type 0 where
  -- those of the site, in the order in which they answered
  pub cells : List Answer
  pub kept_are : HaveTheSame (filter (λ c. not (is_lost lost c.cell)) site.cells) cells
  -- each with its answer
  pub seen : AllZip (IsSeenAs rows) cells got
  -- which is as it was
  pub still : (x : Answer) → Contains got x → Contains stores x
  pub differ : (x y : Answer) → Contains stores x → Contains stores y → x.cell ≡ y.cell → x ≡ y

-- at an earlier moment, before the loss, the rows and what the cells kept were in order and as the site says; since
-- then the leases of the lost cells have ended and nothing else has happened
pub record IsBehindALoss (site : Site) (lost : List (List ℕ)) (rows : Rows) (got stores : List Answer)
    (old now : Moment) : Type 0 where
  -- nothing but what waits for a place was to be done, and no container was a stray
  pub cleared : IsCleared rows stores old
  -- the rows were those of the site with nothing lost
  pub rows_are : AreRowsOf site [] rows
  -- what the site says is crashed is CRASHED
  pub crashed : (w : Wanted) → Contains site.wanted w → w.crashed ≡ true → (a : Actual) →
      find_actual rows w.key Ordinary ≡ Some a → a.state ≡ lrp.Crashed
  pub handed_on : AreHandedOn rows
  -- no cell is silent
  pub none_silent : site.silent_stays ≡ []
  pub ended : OnlyLeasesEnded rows lost old now
  pub answers : AnswerStill site lost rows got stores

-- who answers at a moment: just the cells that are there, each with containers that it has given numbers
pub record AreThoseThere (rows : Rows) (got : List Answer) (now : Moment) : Type 0 where
  pub all : (cell : List ℕ) (epoch : ℕ) → is_there rows now cell epoch ≡ true → IsSome (answer_from got cell epoch)
  pub only : (x : Answer) → Contains got x → is_there rows now x.cell x.epoch ≡ true
  pub given : (x : Answer) → Contains got x → All (IsGiven x.epoch x.last) x.containers
  pub rising : (x : Answer) → Contains got x → IsRising nat_cmp number_of x.containers

-- what rows and answers ask for leaves the site with these cells lost, and no container to stop
pub record LeavesTheSite (site : Site) (lost : List (List ℕ)) (rows : Rows) (got : List Answer)
    (now : Moment) : Type 0 where
  pub as_site : AreAsTheSite site lost (after_plan rows got now) [] got
  pub none_stray : strays (after_plan rows got now) got ≡ []

-- where what the rows ask for is accepted, a loss leaves the site with these cells lost
abbrev pub LossesLeaveTheSite : Type 0
LossesLeaveTheSite = (site : Site) (lost : List (List ℕ)) (rows : Rows) (got stores : List Answer) (old now : Moment) →
    IsValid rows → AreAccepted rows (work rows now) → AreThoseThere rows got now →
    IsBehindALoss site lost rows got stores old now → LeavesTheSite site lost rows got now

-- a job's row says that it has its place on that cell: an instance's ORDINARY row is CLAIMED there, a task is RUNNING
abbrev pub IsTakenOn : Rows → List ℕ → JobName → Type 0
IsTakenOn rows cell (name.Lrp key) =
    (a : Actual) × (i : Instance) × (find_actual rows key Ordinary ≡ Some a) × (a.state ≡ lrp.Claimed i cell)
IsTakenOn rows cell (name.Task n) =
    (t : Task) × (i : Instance) × (find_task rows n ≡ Some t) × (t.state ≡ task.Running i cell)

-- a round does what the plan of the loss says: the same placements, which the last rows have, the same jobs without
-- room, none of them displaced where the verdict is room, and where none is left all is as it should be
pub record GoesAsPlanned (site : Site) (lost : List (List ℕ)) (now : Moment) (placements : List Placement)
    (s' : Standing) (r : Report) : Type 0 where
  pub placed : placements ≡ plan site lost
  pub taken : (n : JobName) (cell : List ℕ) → Contains (plan site lost) (On n cell) →
      IsTakenOn (rows_seen s'.view) cell n
  pub unplaced : r.unplaced ≡ map (λ j. j.job) (left_of site lost)
  pub displaced_placed : verdict_of_loss site lost ≡ Room → (j : Job) → Contains (displaced site lost) j →
      Contains r.unplaced j.job → ⊥
  pub displaced_taken : verdict_of_loss site lost ≡ Room → (j : Job) → Contains (displaced site lost) j →
      (cell : List ℕ) × Contains (plan site lost) (On j.job cell) × IsTakenOn (rows_seen s'.view) cell j.job
  pub ends : left_of site lost ≡ [] → EndsWell now s' r

-- a round behind a loss goes as planned, where nothing disturbs it but, perhaps, want of room for its jobs
abbrev pub LossesGoAsPlanned : Type 0
LossesGoAsPlanned = (by : ℕ) (now : Moment) (line : ℕ) (s s' : Standing) (r : Report)
    (h : IsRound by now line s s' r) (site : Site) (lost : List (List ℕ)) (stores : List Answer) (old : Moment) →
    IsOtherwiseUndisturbed by now line s s' r h →
    IsBehindALoss site lost (rows_seen h.first) h.opens.hearing.got stores old now →
    GoesAsPlanned site lost now h.opening_is.places.placements s' r
