-- How often jobs are placed.
use Rattle.std.specs.Prelude.{ℕ, ◌==◌, Bool, true, false, ◌&&◌, List, map, filter, fold, count_by, max, unwrap_or}
use Rattle.std.specs.Bool.{beq}
use Rattle.std.specs.HashMap.{get, HashMap}
use Rattle.std.specs.declared.hash.BuildHasherDefault.{BuildHasherDefault}
use Rattle.std.specs.declared.hash.FoldHasher.{FoldHasher}
use Rattle.cell_records.specs.declared.job_name.JobName.{JobName}
use Rattle.cell_records.specs.declared.job_name.JobName.TheVariants.{Lrp, Task}
use Rattle.auctioneer.specs.Laws.{job_in}
use Rattle.auctioneer.specs.Stands.{same_name}
use Rattle.auctioneer.specs.declared.placement.Placement.{Placement}
use Rattle.room_facts.specs.Placings.{is_placed}
use Rattle.what_if.specs.Stays.{same_key}
use Rattle.cell_drains.specs.declared.moves.Counted.{Counted}

-- whether both are one job
abbrev pub same_job : JobName → JobName → Bool
same_job (Lrp a) (Lrp b) = same_key a b
same_job (Lrp a) (Task b) = false
same_job (Task a) (Lrp b) = false
same_job (Task a) (Task b) = same_name a b

-- the jobs that have a cell
abbrev pub placed_in : List Placement → List JobName
placed_in placements = map job_in (filter is_placed placements)

-- how often the job is there
abbrev pub times_moved : List JobName → JobName → ℕ
times_moved jobs job = count_by (λ other. same_job other job) jobs

-- the most that one is there
abbrev pub most_moves : List JobName → ℕ
most_moves jobs = fold (λ m job. max m (times_moved jobs job)) 0 jobs

-- a job as it is counted: of a task the index is 0
abbrev pub as_counted : JobName → Counted
as_counted (Lrp key) = record { is_task = false; name = key.process; index = key.index }
as_counted (Task name) = record { is_task = true; name = name; index = 0 }

-- whether both are one
abbrev pub same_counted : Counted → Counted → Bool
same_counted a b = beq a.is_task b.is_task && (same_name a.name b.name && (a.index == b.index))

-- how often the job is there, as it is looked up
abbrev pub times_by : HashMap Counted ℕ (BuildHasherDefault FoldHasher) → JobName → ℕ
times_by times job = unwrap_or (get same_counted times (as_counted job)) 0
