-- The jobs without room: the instances of one process in one row.
use Rattle.std.specs.Prelude.{ℕ, ◌&&◌, Bool, false, cond, List, [], ◌∷◌, ◌++◌, filter, map, codes}
use Rattle.std.specs.Bool.{beq}
use Rattle.std.specs.List.{list_any}
use Rattle.std.specs.Fmt.{decimal}
use Rattle.auctioneer.specs.Stands.{same_name}
use Rattle.cell_records.specs.declared.job_name.JobName.{JobName}
use Rattle.cell_records.specs.declared.job_name.JobName.TheVariants.{Lrp, Task}
use Rattle.forecast_records.specs.declared.unplaced.Unplaced.{Unplaced}
use Rattle.headroom_tables.specs.Entries.{amount, bound_text, lacks_text, tag_text, waited_text}
use Rattle.headroom_tables.specs.Layout.{Column, left, right, section}
use Rattle.headroom_tables.specs.Runs.{indexes_text}

-- what a job is of: the process of an instance, or the task
abbrev pub work_of : JobName → List ℕ
work_of (Lrp key) = key.process
work_of (Task name) = name

-- which instance of its process a job is; 0 for a task
abbrev pub index_of : JobName → ℕ
index_of (Lrp key) = key.index
index_of (Task name) = 0

-- whether both are instances of one process, or one task
abbrev pub same_work : JobName → JobName → Bool
same_work (Lrp a) (Lrp b) = same_name a.process b.process
same_work (Lrp a) (Task b) = false
same_work (Task a) (Lrp b) = false
same_work (Task a) (Task b) = same_name a b

-- whether two jobs stand in one row: they are of one process, and both waited or neither
abbrev pub alike : Unplaced → Unplaced → Bool
alike a b = same_work a.job b.job && beq a.waited b.waited

-- which instances stand in a job's row
abbrev pub indexes_of : List Unplaced → Unplaced → List ℕ
indexes_of jobs u = map (λ v. index_of v.job) (filter (alike u) jobs)

-- the same in words; a task has a dash
abbrev pub instances_text : JobName → List ℕ → List ℕ
instances_text (Lrp key) indexes = indexes_text indexes
instances_text (Task name) indexes = codes "-"

-- the columns of jobs without room
unfoldable pub no_room_columns : List Column
no_room_columns =
    left (codes "NO ROOM FOR")
    ∷ left (codes "INSTANCES")
    ∷ right (codes "MEMORY")
    ∷ right (codes "DISK")
    ∷ left (codes "TAG")
    ∷ left (codes "CELLS LACK")
    ∷ right (codes "OTHER TAG")
    ∷ right (codes "MOST FREE")
    ∷ left (codes "AS LARGE")
    ∷ left (codes "WAITED")
    ∷ []

-- the row of a job, with the words for the instances that stand in it; its numbers are those of the job itself
unfoldable pub no_room_row : Unplaced → List ℕ → List (List ℕ)
no_room_row u instances =
    work_of u.job
    ∷ instances
    ∷ amount u.memory
    ∷ amount u.disk
    ∷ tag_text u.tag
    ∷ lacks_text u.reasons
    ∷ decimal u.reasons.other_tag
    ∷ amount u.most_free.memory
    ∷ bound_text u
    ∷ waited_text u.waited
    ∷ []

-- a job's row
abbrev pub job_row : List Unplaced → Unplaced → List (List ℕ)
job_row jobs u = no_room_row u (instances_text u.job (indexes_of jobs u))

-- the same, where the job is the first of those that stand there
abbrev pub first_rows : List Unplaced → List Unplaced → Unplaced → List (List (List ℕ))
first_rows jobs before u = cond (list_any (alike u) before) [] (job_row jobs u ∷ [])

-- the rows of the jobs behind some others
abbrev pub no_room_rows : List Unplaced → List Unplaced → List Unplaced → List (List (List ℕ))
no_room_rows jobs before [] = []
no_room_rows jobs before (u ∷ us) = first_rows jobs before u ++ no_room_rows jobs (before ++ u ∷ []) us

-- the jobs without room
abbrev pub no_room_table : List Unplaced → List ℕ
no_room_table jobs = section no_room_columns (no_room_rows jobs [] jobs)
