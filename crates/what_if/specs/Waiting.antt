-- What waits for a cell, and what waits because of a loss.
use Rattle.std.specs.Prelude.{ℕ, Bool, false, ◌&&◌, not, List, [], ◌++◌, map, filter, Option, None}
use Rattle.cell_records.specs.declared.job.Job.{Job}
use Rattle.cell_records.specs.declared.job_name.JobName.{JobName}
use Rattle.cell_records.specs.declared.job_name.JobName.TheVariants.{Lrp, Task}
use Rattle.what_if.specs.Stays.{holder, is_held}
use Rattle.what_if.specs.declared.site.Site.{Site}
use Rattle.what_if.specs.declared.site.Wanted.{Wanted}

-- the instance as a job
abbrev pub instance_job : Wanted → Job
instance_job w = record { job = Lrp w.key; memory = w.memory; disk = w.disk; tag = w.tag }

-- whether the instance waits: no cell holds it, and it isn't crashed
abbrev pub does_wait : Site → List (List ℕ) → Wanted → Bool
does_wait site lost w = not (is_held site lost w.key) && not w.crashed

-- what waits with these cells lost: instances by key, then tasks
abbrev pub waits : Site → List (List ℕ) → List Job
waits site lost = map instance_job (filter (does_wait site lost) site.wanted) ++ site.pending

-- the cell that holds the job while nothing is lost
abbrev pub held_before : Site → JobName → Option (List ℕ)
held_before site (Lrp key) = holder site [] key
held_before site (Task task) = None

-- whether what waits with cells lost doesn't wait with none lost: then a cell that is lost holds it
abbrev pub is_displaced : Site → JobName → Bool
is_displaced site (Lrp key) = is_held site [] key
is_displaced site (Task task) = false

-- what waits with these cells lost and doesn't with none lost
abbrev pub displaced : Site → List (List ℕ) → List Job
displaced site lost = filter (λ j. is_displaced site j.job) (waits site lost)
