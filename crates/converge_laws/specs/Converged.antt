-- When a board and the containers of its cells are as they should be.
use Rattle.std.specs.Prelude.{◌≡◌, ◌⊎◌, ℕ, ◌&&◌, Bool, true, false, List, Option, Some, None}
use Rattle.std.specs.List.{Contains}
use Rattle.std.specs.Option.{option_map_or}
use Rattle.cell_records.specs.declared.answer.Answer.{Answer}
use Rattle.cell_records.specs.declared.container.Container.{Container}
use Rattle.cell_records.specs.declared.job_name.JobName.{JobName}
use Rattle.cell_records.specs.declared.job_name.JobName.TheVariants as job
use Rattle.container_store.specs.Changes.{is_uncompleted}
use Rattle.convergence.specs.Containers.{answer_from, container_in, is_named}
use Rattle.crash_backoff.specs.declared.moment.Moment.{Moment}
use Rattle.diego_names.specs.declared.instance.Instance.{Instance}
use Rattle.diego_names.specs.declared.key.Key.{Key}
use Rattle.lrp_records.specs.declared.actual.Actual.{Actual}
use Rattle.lrp_records.specs.declared.presence.Presence.TheVariants.{Ordinary, Evacuating, Suspect}
use Rattle.lrp_records.specs.declared.state.LrpState.{LrpState}
use Rattle.lrp_records.specs.declared.state.LrpState.TheVariants as lrp
use Rattle.task_records.specs.declared.state.TaskState.{TaskState}
use Rattle.task_records.specs.declared.state.TaskState.TheVariants as task
use Rattle.task_records.specs.declared.task.Task.{Task}
use Rattle.bbs_model.specs.Tables.{find_actual}
use Rattle.bbs_model.specs.Work.{is_there, wants, may_go, is_due, runs}
use Rattle.bbs_model.specs.declared.rows.Rows.{Rows}

-- the cell has that container for that job, and it has not ended
abbrev pub keeps_running : JobName → Instance → Answer → Bool
keeps_running job instance x =
    option_map_or (λ (c : Container). is_uncompleted c.state) (container_in job instance x) false

-- the first answer of that cell and epoch, if there is one, has that container for that job, and it has not ended
abbrev pub has_container : List Answer → JobName → Instance → List ℕ → Bool
has_container stores job instance cell =
    option_map_or (keeps_running job instance) (answer_from stores cell instance.epoch) false

-- the container's cell is there, and has it
abbrev pub is_held : Rows → List Answer → Moment → JobName → Instance → List ℕ → Bool
is_held rows stores now job instance cell =
    is_there rows now cell instance.epoch && has_container stores job instance cell

-- an actual row's container is held
abbrev pub IsStateHeld : Rows → List Answer → Moment → Key → LrpState → Type 0
IsStateHeld rows stores now key lrp.Unclaimed = ⊥
IsStateHeld rows stores now key (lrp.Claimed instance cell) = is_held rows stores now (job.Lrp key) instance cell ≡ true
IsStateHeld rows stores now key (lrp.Running instance cell) = is_held rows stores now (job.Lrp key) instance cell ≡ true
IsStateHeld rows stores now key lrp.Crashed = ⊥

-- it is CRASHED and isn't to be tried again yet, if ever, or its container is held
abbrev pub HasItsPlace : Rows → List Answer → Moment → Actual → LrpState → Type 0
HasItsPlace rows stores now a lrp.Unclaimed = ⊥
HasItsPlace rows stores now a (lrp.Claimed instance cell) = is_held rows stores now (job.Lrp a.key) instance cell ≡ true
HasItsPlace rows stores now a (lrp.Running instance cell) = is_held rows stores now (job.Lrp a.key) instance cell ≡ true
HasItsPlace rows stores now a lrp.Crashed = is_due a now ≡ false

-- its container is held, if it has one
abbrev pub HasItsContainer : Rows → List Answer → Moment → Actual → LrpState → Type 0
HasItsContainer rows stores now a lrp.Unclaimed = Unit {0}
HasItsContainer rows stores now a (lrp.Claimed instance cell) =
    is_held rows stores now (job.Lrp a.key) instance cell ≡ true
HasItsContainer rows stores now a (lrp.Running instance cell) =
    is_held rows stores now (job.Lrp a.key) instance cell ≡ true
HasItsContainer rows stores now a lrp.Crashed = Unit {0}

-- a row that isn't wanted stays: it has a domain that isn't fresh, and its container is held, if it has one
abbrev pub IsUnwantedKept : Rows → List Answer → Moment → Key → Actual → Type 0
IsUnwantedKept rows stores now key a =
    (wants rows key ≡ false) × (may_go rows now a ≡ false) × HasItsContainer rows stores now a a.state

-- a wanted instance has its ORDINARY row, and the row has its place; an unwanted one has none, or one that stays
abbrev pub IsInstanceSettled : Rows → List Answer → Moment → Key → Option Actual → Type 0
IsInstanceSettled rows stores now key None = wants rows key ≡ false
IsInstanceSettled rows stores now key (Some a) =
    ((wants rows key ≡ true) × HasItsPlace rows stores now a a.state) ⊎ IsUnwantedKept rows stores now key a

-- an EVACUATING row is of a wanted instance or has a domain that isn't fresh, its container is held, and the
-- ORDINARY row doesn't run
abbrev pub IsKeptAside : Rows → List Answer → Moment → Key → Option Actual → Type 0
IsKeptAside rows stores now key None = Unit {0}
IsKeptAside rows stores now key (Some a) =
    ((wants rows key ≡ true) ⊎ (may_go rows now a ≡ false))
    × IsStateHeld rows stores now key a.state × (runs (find_actual rows key Ordinary) ≡ false)

-- a SUSPECT row is of a wanted instance whose ORDINARY row doesn't run
abbrev pub IsSuspected : Rows → Key → Option Actual → Type 0
IsSuspected rows key None = Unit {0}
IsSuspected rows key (Some a) = (wants rows key ≡ true) × (runs (find_actual rows key Ordinary) ≡ false)

-- a task doesn't wait for a cell, and the container of one that runs is held
abbrev pub IsTaskSettled : Rows → List Answer → Moment → List ℕ → TaskState → Type 0
IsTaskSettled rows stores now name task.Pending = ⊥
IsTaskSettled rows stores now name (task.Running instance cell) = is_held rows stores now (job.Task name) instance cell ≡ true
IsTaskSettled rows stores now name (task.Completed failed) = Unit {0}
IsTaskSettled rows stores now name (task.Resolving failed) = Unit {0}

-- at a moment each instance is where it should be, each task runs or is over, and no cell that is there
-- keeps a container that no row names
pub record IsConverged (rows : Rows) (stores : List Answer) (now : Moment) : Type 0 where
  pub ordinary : (key : Key) → IsInstanceSettled rows stores now key (find_actual rows key Ordinary)
  pub aside : (key : Key) → IsKeptAside rows stores now key (find_actual rows key Evacuating)
  pub suspected : (key : Key) → IsSuspected rows key (find_actual rows key Suspect)
  pub tasks : (t : Task) → Contains rows.tasks t → IsTaskSettled rows stores now t.name t.state
  pub containers : (x : Answer) (c : Container) → Contains stores x → is_there rows now x.cell x.epoch ≡ true →
      Contains x.containers c → is_named rows c ≡ true
