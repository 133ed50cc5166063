-- The order in which the containers of all jobs are kept.
use Rattle.std.specs.Prelude.{ℕ, Option, Some, None}
use Rattle.std.specs.Option.{option_cmp}
use Rattle.std.specs.Ordering.{nat_cmp, on, then_cmp}
use Rattle.std.specs.declared.cmp.Ordering.{Ordering}
use Rattle.cell_records.specs.declared.container.Container.{Container}
use Rattle.cell_records.specs.declared.job_name.JobName.{JobName}
use Rattle.cell_records.specs.declared.job_name.JobName.TheVariants.{Lrp, Task}
use Rattle.diego_names.specs.Order.{name_order}
use Rattle.container_store.specs.declared.entries.JobEntry.{JobEntry}
use Rattle.container_store.specs.declared.entries.JobKey.{JobKey}

-- jobs by index and then by name
abbrev pub job_order : JobKey → JobKey → Ordering
job_order = then_cmp (on (λ k. k.index) (option_cmp nat_cmp)) (on (λ k. k.name) name_order)

-- containers by job and then by number
abbrev pub entry_order : JobEntry → JobEntry → Ordering
entry_order = then_cmp (on (λ e. e.job) job_order) (on (λ e. e.number) nat_cmp)

-- a job as it is ordered: a task has no index
abbrev pub job_key : JobName → JobKey
job_key (Lrp key) = record { index = Some key.index; name = key.process }
job_key (Task name) = record { index = None; name = name }

-- the container of that number among those of the job
abbrev pub job_entry : JobName → ℕ → JobEntry
job_entry job number = record { job = job_key job; number = number }

-- a container among those of its job
abbrev pub entry_of : Container → JobEntry
entry_of c = job_entry c.job c.instance.number
