-- Which containers a job has.
use Rattle.std.specs.Prelude.{◌==◌, ◌&&◌, Bool, true, false, nat_eq, Option, Some, None}
use Rattle.std.specs.Cmp.Lexicographic.{pointwise}
use Rattle.cell_records.specs.declared.job_name.JobName.{JobName}
use Rattle.cell_records.specs.declared.job_name.JobName.TheVariants.{Lrp, Task}

-- the two are one instance of a process, or one task
abbrev pub is_same_job : JobName → JobName → Bool
is_same_job (Lrp a) (Lrp b) = pointwise nat_eq a.process b.process && a.index == b.index
is_same_job (Lrp a) (Task b) = false
is_same_job (Task a) (Lrp b) = false
is_same_job (Task a) (Task b) = pointwise nat_eq a b

-- it is the job that is named, or none is named
abbrev pub is_job_in : Option JobName → JobName → Bool
is_job_in None b = true
is_job_in (Some a) b = is_same_job a b
