-- How far a board is on its way through a round.
use Rattle.std.specs.Prelude.{◌≡◌, ◌⊎◌, ◌↔◌, ℕ, true, false, List, Option, Some, None, IsSome}
use Rattle.std.specs.List.{AllZip, Contains}
use Rattle.std.specs.Ordering.{nat_cmp}
use Rattle.cell_records.specs.declared.answer.Answer.{Answer}
use Rattle.cell_records.specs.declared.container.Container.{Container}
use Rattle.cell_records.specs.declared.job_name.JobName.{JobName}
use Rattle.cell_records.specs.declared.job_name.JobName.TheVariants as job
use Rattle.container_store.specs.Changes.{is_uncompleted}
use Rattle.container_store.specs.Store.{number_of}
use Rattle.convergence.specs.Containers.{answer_from, is_named}
use Rattle.convergence.specs.Subjects.{Subject, work_on, subject_in, ordinary_of, OfPlace, OfTask}
use Rattle.crash_backoff.specs.declared.moment.Moment.{Moment}
use Rattle.diego_names.specs.declared.instance.Instance.{Instance}
use Rattle.diego_names.specs.declared.key.Key.{Key}
use Rattle.lrp_records.specs.declared.actual.Actual.{Actual}
use Rattle.lrp_records.specs.declared.presence.Presence.TheVariants.{Ordinary, Evacuating, Suspect}
use Rattle.lrp_records.specs.declared.state.LrpState.{LrpState}
use Rattle.lrp_records.specs.declared.state.LrpState.TheVariants as lrp
use Rattle.row_tables.specs.Table.{IsRising}
use Rattle.task_records.specs.declared.state.TaskState.{TaskState}
use Rattle.task_records.specs.declared.state.TaskState.TheVariants as task
use Rattle.task_records.specs.declared.task.Task.{Task}
use Rattle.bbs_model.specs.Tables.{find_actual, find_task}
use Rattle.bbs_model.specs.Work.{is_there, wants, is_due}
use Rattle.bbs_model.specs.declared.command.Command.{Command}
use Rattle.bbs_model.specs.declared.command.Op.{Op}
use Rattle.bbs_model.specs.declared.command.Op.TheVariants as op
use Rattle.bbs_model.specs.declared.rows.Rows.{Rows}
use Rattle.converge_laws.specs.Converged.{is_held, IsUnwantedKept, IsKeptAside, IsSuspected}

-- the subject isn't the place of a SUSPECT row
abbrev pub IsNoSuspectPlace : Subject → Type 0
IsNoSuspectPlace (OfPlace (key, Suspect)) = ⊥
IsNoSuspectPlace other = Unit {0}

-- what convergence asked by the rows alone is done: it asks for nothing of any row but SUSPECT ones, and those are
-- of wanted instances whose ORDINARY rows don't run
pub record IsWorked (rows : Rows) (now : Moment) : Type 0 where
  pub rests : (s : Subject) → IsNoSuspectPlace s → work_on rows now s ≡ None
  pub suspected : (key : Key) → IsSuspected rows key (find_actual rows key Suspect)

-- the row may be placed, or waits, or its container is held
abbrev pub MayBePlaced : Rows → List Answer → Moment → Actual → LrpState → Type 0
MayBePlaced rows stores now a lrp.Unclaimed = Unit {0}
MayBePlaced rows stores now a (lrp.Claimed instance cell) = is_held rows stores now (job.Lrp a.key) instance cell ≡ true
MayBePlaced rows stores now a (lrp.Running instance cell) = is_held rows stores now (job.Lrp a.key) instance cell ≡ true
MayBePlaced rows stores now a lrp.Crashed = is_due a now ≡ false

-- a wanted instance has its ORDINARY row, which may be placed if it has no place; an unwanted one has none, or one
-- that stays
abbrev pub IsPlaceable : Rows → List Answer → Moment → Key → Option Actual → Type 0
IsPlaceable rows stores now key None = wants rows key ≡ false
IsPlaceable rows stores now key (Some a) =
    ((wants rows key ≡ true) × MayBePlaced rows stores now a a.state) ⊎ IsUnwantedKept rows stores now key a

-- a task may be placed, or is over, or its container is held
abbrev pub MayTaskBePlaced : Rows → List Answer → Moment → List ℕ → TaskState → Type 0
MayTaskBePlaced rows stores now name task.Pending = Unit {0}
MayTaskBePlaced rows stores now name (task.Running instance cell) = is_held rows stores now (job.Task name) instance cell ≡ true
MayTaskBePlaced rows stores now name (task.Completed failed) = Unit {0}
MayTaskBePlaced rows stores now name (task.Resolving failed) = Unit {0}

-- the task, if there is one, may be placed
abbrev pub IsTaskPlaceable : Rows → List Answer → Moment → List ℕ → Option Task → Type 0
IsTaskPlaceable rows stores now name None = Unit {0}
IsTaskPlaceable rows stores now name (Some t) = MayTaskBePlaced rows stores now name t.state

-- all is as it should be but for rows that wait for a place, and containers that no row names
pub record IsPlanned (rows : Rows) (stores : List Answer) (now : Moment) : Type 0 where
  pub ordinary : (key : Key) → IsPlaceable rows stores now key (find_actual rows key Ordinary)
  pub aside : (key : Key) → IsKeptAside rows stores now key (find_actual rows key Evacuating)
  pub suspected : (key : Key) → IsSuspected rows key (find_actual rows key Suspect)
  pub tasks : (name : List ℕ) → IsTaskPlaceable rows stores now name (find_task rows name)

-- each container of a cell that is there is named, and has not ended
abbrev pub NoStrays : Rows → List Answer → Moment → Type 0
NoStrays rows stores now = (x : Answer) (c : Container) → Contains stores x → is_there rows now x.cell x.epoch ≡ true →
    Contains x.containers c → (is_uncompleted c.state ≡ true) × (is_named rows c ≡ true)

-- all is as it should be but for rows that wait for a place
pub record IsCleared (rows : Rows) (stores : List Answer) (now : Moment) : Type 0 where
  pub planned : IsPlanned rows stores now
  pub clear : NoStrays rows stores now

-- of the cells that are there each has answered, with what it keeps
pub record HaveAnswered (rows : Rows) (got stores : List Answer) (now : Moment) : Type 0 where
  pub inside : (x : Answer) → Contains got x → Contains stores x
  pub differ : (x y : Answer) → Contains stores x → Contains stores y → x.cell ≡ y.cell → x ≡ y
  pub there : (cell : List ℕ) (epoch : ℕ) → is_there rows now cell epoch ≡ true → IsSome (answer_from got cell epoch)
  pub rising : (x : Answer) → Contains got x → IsRising nat_cmp number_of x.containers

-- the two are of one cell under one epoch
pub record IsSameCell (x y : Answer) : Type 0 where
  pub cell : y.cell ≡ x.cell
  pub epoch : y.epoch ≡ x.epoch

-- a cell's containers without those that were stopped
pub record IsWithout (stopped : List (List ℕ × Instance)) (x y : Answer) : Type 0 where
  pub same : IsSameCell x y
  pub left : (c : Container) → Contains y.containers c ↔ (Contains x.containers c × (Contains stopped (x.cell, c.instance) → ⊥))

-- the containers of all cells without those
abbrev pub AreWithout : List (List ℕ × Instance) → List Answer → List Answer → Type 0
AreWithout stopped before after = AllZip (IsWithout stopped) before after

-- the command is the claim of a container for a job on a cell
abbrev pub IsClaimOf : JobName → Instance → List ℕ → Op → Type 0
IsClaimOf (job.Lrp key) instance cell o = o ≡ op.Claim key instance cell
IsClaimOf (job.Task name) instance cell o = o ≡ op.StartTask name instance cell

-- one of the commands is
pub record IsClaimed (cs : List Command) (job : JobName) (instance : Instance) (cell : List ℕ) : Type 0 where
  pub command : Command
  pub inside : Contains cs command
  pub claims : IsClaimOf job instance cell command.op

-- a cell's containers with those that were claimed on it, which have not ended
pub record IsWith (cs : List Command) (x y : Answer) : Type 0 where
  pub same : IsSameCell x y
  pub stays : (c : Container) → Contains x.containers c → Contains y.containers c
  pub new : (c : Container) → Contains y.containers c →
      Contains x.containers c ⊎ (IsClaimed cs c.job c.instance x.cell × (is_uncompleted c.state ≡ true))
  pub claimed : (job : JobName) (instance : Instance) → IsClaimed cs job instance x.cell → instance.epoch ≡ x.epoch →
      (c : Container) × Contains y.containers c × (c.job ≡ job) × (c.instance ≡ instance)

-- the containers of all cells with those
abbrev pub AreWith : List Command → List Answer → List Answer → Type 0
AreWith cs before after = AllZip (IsWith cs) before after

-- each row of a wanted instance and each task that waits for a place is claimed, by one command, on a cell that is
-- there
pub record PlacesAll (rows : Rows) (now : Moment) (cs : List Command) : Type 0 where
  pub claims : (c : Command) → Contains cs c →
      (job : JobName) × (instance : Instance) × (cell : List ℕ) × IsClaimOf job instance cell c.op
      × (is_there rows now cell instance.epoch ≡ true)
  pub rows_placed : (key : Key) (a : Actual) → find_actual rows key Ordinary ≡ Some a → a.state ≡ lrp.Unclaimed →
      wants rows key ≡ true → (c : Command) × Contains cs c × (subject_in c ≡ ordinary_of key)
  pub tasks_placed : (name : List ℕ) (t : Task) → find_task rows name ≡ Some t → t.state ≡ task.Pending →
      (c : Command) × Contains cs c × (subject_in c ≡ OfTask name)
