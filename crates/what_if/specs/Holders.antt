-- How the holders of instances are looked up.
use Rattle.std.specs.Prelude.{◌≡◌, ℕ, Bool, ◌&&◌, not, is_some, List, ◌++◌, map, filter, Option, None}
use Rattle.std.specs.HashMap.{get}
use Rattle.diego_names.specs.declared.key.Key.{Key}
use Rattle.cell_records.specs.declared.job.Job.{Job}
use Rattle.cell_records.specs.declared.job_name.JobName.{JobName}
use Rattle.cell_records.specs.declared.job_name.JobName.TheVariants.{Lrp, Task}
use Rattle.auctioneer.specs.declared.stand.Stand.{Stand}
use Rattle.forecast_records.specs.declared.unplaced.Unplaced.{Unplaced}
use Rattle.what_if.specs.Plans.{unplaced_at}
use Rattle.what_if.specs.Stays.{holder_in, same_key}
use Rattle.what_if.specs.Waiting.{instance_job}
use Rattle.what_if.specs.declared.site.Site.{Site}
use Rattle.what_if.specs.declared.site.Stay.{Stay}
use Rattle.what_if.specs.declared.site.Wanted.{Wanted}
use Rattle.what_if.specs.declared.standing.Holders.{Holders}

-- the cell that holds the instance, as it is looked up
abbrev pub found : Holders → Key → Option (List ℕ)
found holders key = get same_key holders.cells key

-- each instance is found on the first cell on which it stands
abbrev pub IsHolders : List Stay → Holders → Type 0
IsHolders stays holders = (key : Key) → found holders key ≡ holder_in stays key

-- whether the instance waits, as its cell is looked up
abbrev pub does_wait_by : Holders → Wanted → Bool
does_wait_by holders w = not (is_some (found holders w.key)) && not w.crashed

-- what waits, as cells are looked up
abbrev pub waits_by : Site → Holders → List Job
waits_by site holders = map instance_job (filter (does_wait_by holders) site.wanted) ++ site.pending

-- the cell that holds the job while nothing is lost, as it is looked up
abbrev pub found_before : Holders → JobName → Option (List ℕ)
found_before holders (Lrp key) = found holders key
found_before holders (Task task) = None

-- why a job has no room, as cells are looked up
abbrev pub unplaced_by : Holders → List Stand → List Job → List Stand → Job → Unplaced
unplaced_by holders before jobs turn job =
    unplaced_at (λ j. not (is_some (found_before holders j))) before jobs turn job
