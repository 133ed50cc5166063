-- Containers as rows name them and as cells tell of them.
use Rattle.std.specs.Prelude.{ℕ, ◌==◌, ◌&&◌, ◌||◌, Bool, false, List, find, nat_eq, Option, Some, None}
use Rattle.std.specs.Cmp.Lexicographic.{pointwise}
use Rattle.std.specs.Option.{option_map_or}
use Rattle.cell_records.specs.declared.answer.Answer.{Answer}
use Rattle.cell_records.specs.declared.container.Container.{Container}
use Rattle.cell_records.specs.declared.job_name.JobName.{JobName}
use Rattle.cell_records.specs.declared.job_name.JobName.TheVariants as job
use Rattle.container_store.specs.Jobs.{is_same_job}
use Rattle.diego_names.specs.declared.instance.Instance.{Instance}
use Rattle.lrp_records.specs.States.{holder_of, is_same_instance}
use Rattle.lrp_records.specs.declared.actual.Actual.{Actual}
use Rattle.lrp_records.specs.declared.presence.Presence.TheVariants.{Ordinary, Evacuating, Suspect}
use Rattle.lrp_records.specs.declared.state.LrpState.{LrpState}
use Rattle.lrp_records.specs.declared.state.LrpState.TheVariants as lrp
use Rattle.task_records.specs.declared.state.TaskState.{TaskState}
use Rattle.task_records.specs.declared.state.TaskState.TheVariants as task
use Rattle.task_records.specs.declared.task.Task.{Task}
use Rattle.bbs_model.specs.Tables.{find_actual, find_task}
use Rattle.task_records.specs.States.{runner_of}
use Rattle.bbs_model.specs.declared.rows.Rows.{Rows}

-- a container as a row names it: which one, and the cell that keeps it
abbrev pub Site : Type 0
Site = Instance × List ℕ

-- the container of an actual row's state
abbrev pub site_of : LrpState → Option Site
site_of lrp.Unclaimed = None
site_of (lrp.Claimed instance cell) = Some (instance, cell)
site_of (lrp.Running instance cell) = Some (instance, cell)
site_of lrp.Crashed = None

-- the container of a task's state
abbrev pub task_site_of : TaskState → Option Site
task_site_of task.Pending = None
task_site_of (task.Running instance cell) = Some (instance, cell)
task_site_of (task.Completed failed) = None
task_site_of (task.Resolving failed) = None

-- the answer is of that cell, under that epoch
abbrev pub is_answer_of : List ℕ → ℕ → Answer → Bool
is_answer_of cell epoch x = pointwise nat_eq x.cell cell && x.epoch == epoch

-- what a cell answered under an epoch: the first, where there are several
abbrev pub answer_from : List Answer → List ℕ → ℕ → Option Answer
answer_from answers cell epoch = find (is_answer_of cell epoch) answers

-- the container is that instance, and is for that job
abbrev pub is_container_of : JobName → Instance → Container → Bool
is_container_of job instance c = is_same_instance instance c.instance && is_same_job job c.job

-- a job's container of that instance in an answer: the first, where there are several
abbrev pub container_in : JobName → Instance → Answer → Option Container
container_in job instance x = find (is_container_of job instance) x.containers

-- the instance is the one that is held, if one is
abbrev pub is_holder : Option Instance → Instance → Bool
is_holder held instance = option_map_or (is_same_instance instance) held false

-- the actual row is there, and names that instance
abbrev pub row_names : Option Actual → Instance → Bool
row_names row instance = option_map_or (λ (a : Actual). is_holder (holder_of a.state) instance) row false

-- the task is there, and names that instance
abbrev pub task_names : Option Task → Instance → Bool
task_names row instance = option_map_or (λ (t : Task). is_holder (runner_of t.state) instance) row false

-- a row of the job names that instance: an ORDINARY, an EVACUATING or a SUSPECT one, or a task
abbrev pub is_named_for : JobName → Rows → Instance → Bool
is_named_for (job.Lrp key) rows instance =
    row_names (find_actual rows key Ordinary) instance || row_names (find_actual rows key Evacuating) instance
    || row_names (find_actual rows key Suspect) instance
is_named_for (job.Task name) rows instance = task_names (find_task rows name) instance

-- a row names the container, by its job and its instance
abbrev pub is_named : Rows → Container → Bool
is_named rows c = is_named_for c.job rows c.instance
