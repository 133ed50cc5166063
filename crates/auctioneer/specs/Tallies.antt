-- How many containers of each process each zone has, and each cell, as it is kept.
use Rattle.std.specs.Prelude.{◌≡◌, ℕ, ◌+◌, Bool, true, ◌&&◌, List, sum_by, unwrap_or, is_some, if◌then◌else◌}
use Rattle.std.specs.HashMap.{get}
use Rattle.cell_records.specs.declared.job_name.JobName.{JobName}
use Rattle.cell_records.specs.declared.job_name.JobName.TheVariants.{Lrp, Task}
use Rattle.auctioneer.specs.Stands.{same_name, is_of, held_of}
use Rattle.auctioneer.specs.declared.stand.Stand.{Stand}
use Rattle.auctioneer.specs.declared.tally.Place.{Place}
use Rattle.auctioneer.specs.declared.tally.Place.TheVariants.{Zone, Cell}
use Rattle.auctioneer.specs.declared.tally.Share.{Share}
use Rattle.auctioneer.specs.declared.tally.Tally.{Tally}

-- the name of the cell's zone, or its own
abbrev pub place_of : Place → Stand → List ℕ
place_of Zone s = s.zone
place_of Cell s = s.cell

-- how many containers of the job's process the cell has, if it is at that place
abbrev pub held_at : Place → JobName → List ℕ → Stand → ℕ
held_at place job name s = if same_name (place_of place s) name then held_of job s else 0

-- how many all cells at that place have
abbrev pub count_at : Place → List Stand → JobName → List ℕ → ℕ
count_at place stands job name = sum_by (held_at place job name) stands

-- whether both are one process at one place
abbrev pub same_share : Share → Share → Bool
same_share a b = same_name a.process b.process && same_name a.place b.place

-- how many containers of the job's process the place has, by the tally; a task is of none
abbrev pub tallied : Tally → JobName → List ℕ → ℕ
tallied tally (Lrp key) name =
    unwrap_or (get same_share tally.counts (record { process = key.process; place = name })) 0
tallied tally (Task task) name = 0

-- whether a container at a place counts for a process at another
abbrev pub counts_for : JobName → List ℕ → JobName → List ℕ → ℕ
counts_for job name other place = if same_name name place then (if is_of other job then 1 else 0) else 0

-- one container more is counted, of that job at that place
abbrev pub Gains : Tally → Tally → JobName → List ℕ → Type 0
Gains old new job name =
    (other : JobName) (place : List ℕ) → tallied new other place ≡ tallied old other place + counts_for job name other place

-- it has an entry for the job's process at that place, so that one more takes no memory; a task needs none
abbrev pub HasRoomFor : Tally → JobName → List ℕ → Type 0
HasRoomFor tally (Lrp key) name = is_some (get same_share tally.counts (record { process = key.process; place = name })) ≡ true
HasRoomFor tally (Task task) name = Unit {0}

-- both count the same
abbrev pub SaysTheSame : Tally → Tally → Type 0
SaysTheSame old new = (job : JobName) (name : List ℕ) → tallied new job name ≡ tallied old job name

-- the tally says what the cells hold
abbrev pub CountsAt : Place → Tally → List Stand → Type 0
CountsAt place tally stands = (job : JobName) (name : List ℕ) → tallied tally job name ≡ count_at place stands job name
