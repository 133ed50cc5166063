-- The open cells with the containers of some processes alone.
use Rattle.std.specs.Prelude.{ℕ, Bool, false, List, filter, filter_map, Option, Some, None}
use Rattle.std.specs.HashSet.{contains, HashSet}
use Rattle.cell_records.specs.declared.answer.Answer.{Answer}
use Rattle.cell_records.specs.declared.job.Job.{Job}
use Rattle.cell_records.specs.declared.job_name.JobName.{JobName}
use Rattle.cell_records.specs.declared.job_name.JobName.TheVariants.{Lrp, Task}
use Rattle.auctioneer.specs.Stands.{same_name}

-- the process of an instance; a task is of none
abbrev pub process_in : JobName → Option (List ℕ)
process_in (Lrp key) = Some key.process
process_in (Task name) = None

-- the processes of the jobs
abbrev pub processes_of : List Job → List (List ℕ)
processes_of jobs = filter_map (λ j. process_in j.job) jobs

-- whether the job is an instance of one of the processes
abbrev pub is_kept : {S : Type 0} → HashSet (List ℕ) S → JobName → Bool
is_kept processes (Lrp key) = contains same_name processes key.process
is_kept processes (Task name) = false

-- the cell with the containers of these processes alone
abbrev pub kept_cell : {S : Type 0} → HashSet (List ℕ) S → Answer → Answer
kept_cell processes c = record c { containers = filter (λ k. is_kept processes k.job) c.containers }
