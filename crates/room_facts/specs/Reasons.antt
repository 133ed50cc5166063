-- Why a job has no room on the cells as they stand.
use Rattle.std.specs.Prelude.{ℕ, ◌+◌, Bool, true, false, cond, not, List, length, Option, filter, count_by, fold, max}
use Rattle.cell_records.specs.declared.amounts.Amounts.{Amounts}
use Rattle.cell_records.specs.declared.job.Job.{Job}
use Rattle.auctioneer.specs.declared.stand.Stand.{Stand}
use Rattle.room_facts.specs.Lacks.{has_tag, lacks_just}
use Rattle.room_facts.specs.declared.lacking.Lacking.{Lacking}
use Rattle.room_facts.specs.declared.reasons.Reasons.{Reasons}

-- how many cells of the job's tag have too little of just these amounts
abbrev pub lacking : Bool → Bool → Bool → Job → List Stand → ℕ
lacking memory disk containers job stands =
    count_by (lacks_just (record { memory = memory; disk = disk; containers = containers }) job) stands

-- the cells counted by what they lack
abbrev pub reasons_of : Job → List Stand → Reasons
reasons_of job stands = record {
  cells = length stands;
  other_tag = count_by (λ s. not (has_tag job.tag s)) stands;
  memory = lacking true false false job stands;
  disk = lacking false true false job stands;
  containers = lacking false false true job stands;
  memory_disk = lacking true true false job stands;
  memory_containers = lacking true false true job stands;
  disk_containers = lacking false true true job stands;
  memory_disk_containers = lacking true true true job stands;
}

-- how many cells are counted under these amounts, and none under no amount
abbrev pub counted : Reasons → Lacking → ℕ
counted r a =
    cond a.memory
    (cond a.disk (cond a.containers r.memory_disk_containers r.memory_disk) (cond a.containers r.memory_containers r.memory))
    (cond a.disk (cond a.containers r.disk_containers r.disk) (cond a.containers r.containers 0))

-- all cells that are counted, each kind of count once
abbrev pub counted_in_all : Reasons → ℕ
counted_in_all r =
    r.other_tag + r.memory + r.disk + r.containers + r.memory_disk + r.memory_containers + r.disk_containers + r.memory_disk_containers

-- of each amount the larger one
abbrev pub larger : Amounts → Amounts → Amounts
larger a b = record {
  memory = max a.memory b.memory;
  disk = max a.disk b.disk;
  containers = max a.containers b.containers;
}

-- the largest of the numbers, and 0 of none
abbrev pub most : (Stand → ℕ) → List Stand → ℕ
most f stands = fold (λ m s. max m (f s)) 0 stands

-- of each amount the most that is free on a cell with the tag, and 0 where there is none
abbrev pub most_free : Option (List ℕ) → List Stand → Amounts
most_free tag stands = record {
  memory = most (λ s. s.free.memory) (filter (has_tag tag) stands);
  disk = most (λ s. s.free.disk) (filter (has_tag tag) stands);
  containers = most (λ s. s.free.containers) (filter (has_tag tag) stands);
}
