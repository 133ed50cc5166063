-- The laws of a drain.
use Rattle.std.specs.Prelude.{◌≡◌, ◌≢◌, ℕ, ◌+◌, ◌<◌, ◌≤◌, Bool, false, max, List, ◌∷◌, [], Option, Some, take, map, length, count_by}
use Rattle.std.specs.List.{All, AllPairs, Contains, flat_map, slice_get}
use Rattle.diego_names.specs.declared.key.Key.{Key}
use Rattle.cell_records.specs.declared.job.Job.{Job}
use Rattle.cell_records.specs.declared.job_name.JobName.{JobName}
use Rattle.cell_records.specs.declared.job_name.JobName.TheVariants.{Lrp, Task}
use Rattle.what_if.specs.Plans.{left_of, planned}
use Rattle.what_if.specs.Sites.{IsSite}
use Rattle.what_if.specs.Stays.{is_lost, same_key, stays}
use Rattle.what_if.specs.declared.site.Site.{Site}
use Rattle.what_if.specs.declared.site.Wanted.{Wanted}
use Rattle.cell_drains.specs.Batches.{batches}
use Rattle.cell_drains.specs.Drains.{site_then, step_from, steps_from}
use Rattle.cell_drains.specs.Seats.{in_drain}
use Rattle.cell_drains.specs.Steps.{after_step}
use Rattle.cell_drains.specs.declared.batches.Batch.{Batch}
use Rattle.cell_drains.specs.declared.seats.Seat.{Seat}

-- the batch has some cells and at most so many, each of them one of these, of the batch's zone and tag
pub record IsBatch (most : ℕ) (cells : List Seat) (b : Batch) : Type 0 where
  pub some : 0 < length b.cells
  pub few : length b.cells ≤ max 1 most
  pub alike : All (λ name. (s : Seat) × Contains cells s × (s.cell ≡ name) × (s.zone ≡ b.zone) × (s.tag ≡ b.tag)) b.cells

-- the batches are cells of one zone and one tag, and one after another they are all the cells in their order
pub record AreBatches (most : ℕ) (cells : List Seat) (bs : List Batch) : Type 0 where
  pub each : All (IsBatch most cells) bs
  pub all : flat_map (λ b. b.cells) bs ≡ map (λ s. s.cell) cells

-- so they are, however many cells a batch may have
abbrev pub BatchesAreOfOneKind : Type 0
BatchesAreOfOneKind = (most : ℕ) (cells : List Seat) → AreBatches most cells (batches most cells)

-- the names that are given differ
abbrev pub NamesDiffer : Option (List (List ℕ)) → Type 0
NamesDiffer names = (given : List (List ℕ)) → names ≡ Some given → AllPairs (λ a b. a ≢ b) given

-- then no cell is in two batches, nor twice in one
abbrev pub NoCellGoesTwice : Type 0
NoCellGoesTwice =
    (site : Site) (names : Option (List (List ℕ))) (most : ℕ) → IsSite site → NamesDiffer names →
    AllPairs (λ a b. a ≢ b) (flat_map (λ b. b.cells) (batches most (in_drain site names)))

-- each step is the plan on the site that the steps before it leave, and the next one begins with what it leaves
pub record IsStepAt (site : Site) (bs : List Batch) (n : ℕ) (b : Batch) : Type 0 where
  pub step : slice_get (steps_from 1 site bs) n ≡ Some (step_from (n + 1) b (planned (site_then site (take n bs)) b.cells))
  pub next : site_then site (take (n + 1) bs) ≡ after_step (site_then site (take n bs)) b.cells

-- there is a step for each batch and no other
pub record IsChain (site : Site) (bs : List Batch) : Type 0 where
  pub as_many : length (steps_from 1 site bs) ≡ length bs
  pub each : (n : ℕ) (b : Batch) → slice_get bs n ≡ Some b → IsStepAt site bs n b

-- so is every drain
abbrev pub DrainsAreChains : Type 0
DrainsAreChains = (site : Site) (bs : List Batch) → IsChain site bs

-- whether a job is the instance
abbrev pub is_instance : Key → JobName → Bool
is_instance key (Lrp other) = same_key other key
is_instance key (Task name) = false

-- how often the instance is among the jobs
abbrev pub times_in : Key → List Job → ℕ
times_in key jobs = count_by (λ j. is_instance key j.job) jobs

-- on how many cells the instance stands with these cells lost
abbrev pub copies : Site → List (List ℕ) → Key → ℕ
copies site lost key = count_by (λ s. same_key s.key key) (stays site lost)

-- a step keeps the instance: where it stands on other cells it stays; else it stands on one cell, or is left over and waits
-- on, unless it is crashed
pub record KeepsInstance (site : Site) (batch : List (List ℕ)) (w : Wanted) : Type 0 where
  pub stays : copies site batch w.key ≤ copies (after_step site batch) [] w.key
  pub once : copies (after_step site batch) [] w.key ≤ max 1 (copies site batch w.key)
  pub found : w.crashed ≡ false → 0 < copies (after_step site batch) [] w.key + times_in w.key (left_of site batch)

-- a step keeps what is wanted
pub record KeepsWanted (site : Site) (batch : List (List ℕ)) : Type 0 where
  pub wanted : (after_step site batch).wanted ≡ site.wanted
  pub each : All (KeepsInstance site batch) site.wanted

-- each step does
abbrev pub StepsKeep : Site → List Batch → Type 0
StepsKeep site [] = Unit {0}
StepsKeep site (b ∷ bs) = KeepsWanted site b.cells × StepsKeep (after_step site b.cells) bs

-- the batch has no silent cell on which an instance stands
abbrev pub IsOfTelling : Site → Batch → Type 0
IsOfTelling site b = All (λ s. is_lost b.cells s.cell ≡ false) site.silent_stays

-- so it is of every drain
abbrev pub StepsKeepTheWanted : Type 0
StepsKeepTheWanted =
    (site : Site) (bs : List Batch) → IsSite site → All (IsOfTelling site) bs → StepsKeep site bs
