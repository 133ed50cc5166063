-- The order in which jobs are placed.
use Rattle.std.specs.Prelude.{ℕ, ◌==◌, if◌then◌else◌, List}
use Rattle.std.specs.Ordering.{nat_cmp, on, flip_args, then_cmp}
use Rattle.std.specs.declared.cmp.Ordering.{Ordering}
use Rattle.diego_names.specs.Order.{name_order}
use Rattle.row_tables.specs.Table.{table}
use Rattle.cell_records.specs.declared.job.Job.{Job}
use Rattle.cell_records.specs.declared.job_name.JobName.{JobName}
use Rattle.cell_records.specs.declared.job_name.JobName.TheVariants.{Lrp, Task}
use Rattle.auctioneer.specs.declared.turns.Turn.{Turn}

-- first instances come before tasks, and tasks before the other instances
abbrev pub class_of : JobName → ℕ
class_of (Lrp key) = if key.index == 0 then 0 else 2
class_of (Task name) = 1

-- the process or the task
abbrev pub job_name : JobName → List ℕ
job_name (Lrp key) = key.process
job_name (Task name) = name

-- the number of an instance, and 0 of a task
abbrev pub index_of : JobName → ℕ
index_of (Lrp key) = key.index
index_of (Task name) = 0

-- what decides when a job is placed
abbrev pub turn_of : Job → Turn
turn_of job = record {
  class = class_of job.job;
  memory = record { 0 = job.memory };
  name = job_name job.job;
  index = index_of job.job;
}

-- by class, then the larger memory first, then by key or name
abbrev pub turn_order : Turn → Turn → Ordering
turn_order =
    then_cmp (on (λ t. t.class) nat_cmp)
    (then_cmp (on (λ t. t.memory.0) (flip_args nat_cmp))
    (then_cmp (on (λ t. t.name) name_order) (on (λ t. t.index) nat_cmp)))

-- the jobs in the order in which they are placed
abbrev pub in_order : List Job → List Job
in_order jobs = table turn_order turn_of jobs
