-- The work that waits for a cell.
use Rattle.std.specs.Prelude.{nat_lt, List, ◌++◌, Option, Some, None, if◌then◌else◌}
use Rattle.std.specs.List.{filter_map}
use Rattle.std.specs.Option.{option_and_then, option_map}
use Rattle.cell_records.specs.declared.job.Job.{Job}
use Rattle.cell_records.specs.declared.job_name.JobName.{JobName}
use Rattle.cell_records.specs.declared.job_name.JobName.TheVariants as name
use Rattle.diego_names.specs.declared.key.Key.{Key}
use Rattle.lrp_records.specs.declared.actual.Actual.{Actual}
use Rattle.lrp_records.specs.declared.desired.Desired.{Desired}
use Rattle.lrp_records.specs.declared.presence.Presence.{Presence}
use Rattle.lrp_records.specs.declared.presence.Presence.TheVariants.{Ordinary, Evacuating, Suspect}
use Rattle.lrp_records.specs.declared.state.LrpState.{LrpState}
use Rattle.lrp_records.specs.declared.state.LrpState.TheVariants.{Unclaimed, Claimed, Running, Crashed}
use Rattle.task_records.specs.declared.state.TaskState.{TaskState}
use Rattle.task_records.specs.declared.state.TaskState.TheVariants as task
use Rattle.task_records.specs.declared.task.Task.{Task}
use Rattle.bbs_model.specs.Tables.{find_desired, find_task}
use Rattle.bbs_model.specs.declared.rows.Rows.{Rows}

-- an instance of a process, with the amounts of the process, if it has so many
abbrev pub job_of_place : Key → Desired → Option Job
job_of_place key d =
    if nat_lt key.index d.instances
    then Some (record { job = name.Lrp key; memory = d.memory; disk = d.disk; tag = d.tag }) else None

-- a wanted instance
abbrev pub instance_job : Rows → Key → Option Job
instance_job rows key = option_and_then (job_of_place key) (find_desired rows key.process)

-- an actual row waits where it is ORDINARY and UNCLAIMED
abbrev pub waiting_job : Rows → Key → Presence → LrpState → Option Job
waiting_job rows key Ordinary Unclaimed = instance_job rows key
waiting_job rows key Ordinary (Claimed i c) = None
waiting_job rows key Ordinary (Running i c) = None
waiting_job rows key Ordinary Crashed = None
waiting_job rows key Evacuating state = None
waiting_job rows key Suspect state = None

-- the job of an actual row that waits
abbrev pub row_job : Rows → Actual → Option Job
row_job rows a = waiting_job rows a.key a.presence a.state

-- a task, with its amounts
abbrev pub job_of_task : Task → Job
job_of_task t = record { job = name.Task t.name; memory = t.memory; disk = t.disk; tag = t.tag }

-- a task waits where it is PENDING
abbrev pub pending_job : Task → TaskState → Option Job
pending_job t task.Pending = Some (job_of_task t)
pending_job t (task.Running i c) = None
pending_job t (task.Completed failed) = None
pending_job t (task.Resolving failed) = None

-- the job of a task that waits
abbrev pub task_job : Task → Option Job
task_job t = pending_job t t.state

-- the instances and tasks that wait
abbrev pub jobs : Rows → List Job
jobs rows = filter_map (row_job rows) rows.actual ++ filter_map task_job rows.tasks

-- the job of that name
abbrev pub named_job : Rows → JobName → Option Job
named_job rows (name.Lrp key) = instance_job rows key
named_job rows (name.Task t) = option_map job_of_task (find_task rows t)
