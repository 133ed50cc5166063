-- Which cells are open, and where instances stand.
use Rattle.std.specs.Prelude.{ℕ, Bool, ◌&&◌, ◌==◌, not, if◌then◌else◌, List, [], ◌∷◌, ◌++◌, map, filter, Option, Some, None, is_some}
use Rattle.std.specs.List.{list_any, filter_map, flat_map}
use Rattle.diego_names.specs.declared.key.Key.{Key}
use Rattle.cell_records.specs.declared.answer.Answer.{Answer}
use Rattle.cell_records.specs.declared.job_name.JobName.{JobName}
use Rattle.cell_records.specs.declared.job_name.JobName.TheVariants.{Lrp, Task}
use Rattle.auctioneer.specs.Stands.{same_name, jobs_of}
use Rattle.auctioneer.specs.declared.stand.Stand.{Stand}
use Rattle.what_if.specs.declared.site.Site.{Site}
use Rattle.what_if.specs.declared.site.Stay.{Stay}

-- whether both are one instance
abbrev pub same_key : Key → Key → Bool
same_key a b = same_name a.process b.process && (a.index == b.index)

-- whether the cell is lost
abbrev pub is_lost : List (List ℕ) → List ℕ → Bool
is_lost lost cell = list_any (λ name. same_name name cell) lost

-- whether work may stand and go there: it isn't lost, and isn't being emptied
abbrev pub is_open : List (List ℕ) → Answer → Bool
is_open lost c = not (is_lost lost c.cell) && not c.evacuating

-- the cells that told their state and are open
abbrev pub open_cells : Site → List (List ℕ) → List Answer
open_cells site lost = filter (is_open lost) site.cells

-- the instance that a job is of; a task is of none
abbrev pub instance_in : JobName → Option Key
instance_in (Lrp key) = Some key
instance_in (Task task) = None

-- an instance on that cell of that zone
abbrev pub stay_at : List ℕ → List ℕ → Key → Stay
stay_at cell zone key = record { key = key; cell = cell; zone = zone }

-- the instances among the jobs of a cell
abbrev pub stays_at : List ℕ → List ℕ → List JobName → List Stay
stays_at cell zone jobs = map (stay_at cell zone) (filter_map instance_in jobs)

-- the instances that have a container on the cell that has not ended
abbrev pub stays_on : Answer → List Stay
stays_on c = stays_at c.cell c.zone (jobs_of c.containers)

-- those on silent cells that aren't lost, as rows say
abbrev pub silent_stays : Site → List (List ℕ) → List Stay
silent_stays site lost = filter (λ s. not (is_lost lost s.cell)) site.silent_stays

-- where instances stand: on the open cells in the order of their names, then on silent ones
abbrev pub stays : Site → List (List ℕ) → List Stay
stays site lost = flat_map stays_on (open_cells site lost) ++ silent_stays site lost

-- the same, on cells as an auction leaves them
abbrev pub stays_after : Site → List (List ℕ) → List Stand → List Stay
stays_after site lost stands = flat_map (λ s. stays_at s.cell s.zone s.jobs) stands ++ silent_stays site lost

-- the first cell on which the instance stands
abbrev pub holder_in : List Stay → Key → Option (List ℕ)
holder_in [] key = None
holder_in (s ∷ ss) key = if same_key s.key key then Some s.cell else holder_in ss key

-- the cell that holds the instance with these cells lost
abbrev pub holder : Site → List (List ℕ) → Key → Option (List ℕ)
holder site lost key = holder_in (stays site lost) key

-- whether a cell holds the instance: an open one with a container of it that has not ended, or a silent one that its row names
abbrev pub is_held : Site → List (List ℕ) → Key → Bool
is_held site lost key = is_some (holder site lost key)
