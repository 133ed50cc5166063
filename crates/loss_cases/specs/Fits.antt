-- Where more instances of a process would go.
use Rattle.std.specs.Prelude.{◌≡◌, ℕ, ◌+◌, ◌-◌, ◌^◌, ◌≤◌, nat_lt, if◌then◌else◌, List, [], ◌∷◌, ◌++◌, map, filter, fold, length, count_by, sum_by, max, min, false, nat_le, Option}
use Rattle.std.specs.List.{slice_get, range_with_len, zip, All}
use Rattle.std.specs.Option.{option_or}
use Rattle.std.specs.Ordering.{on, then_cmp}
use Rattle.std.specs.declared.cmp.Ordering.{Ordering}
use Rattle.diego_names.specs.Order.{name_order}
use Rattle.row_tables.specs.Table.{table}
use Rattle.cell_records.specs.declared.job.Job.{Job}
use Rattle.cell_records.specs.declared.job_name.JobName.{JobName}
use Rattle.cell_records.specs.declared.job_name.JobName.TheVariants.{Lrp}
use Rattle.auctioneer.specs.Auction.{auction_from, placement_on}
use Rattle.auctioneer.specs.Least.{best}
use Rattle.auctioneer.specs.Stands.{same_name}
use Rattle.auctioneer.specs.declared.stand.Stand.{Stand}
use Rattle.dump_lines.specs.declared.demand.Demand.{Demand}
use Rattle.forecast_records.specs.declared.fits.Filled.{Filled}
use Rattle.forecast_records.specs.declared.fits.Fitted.{Fitted}
use Rattle.forecast_records.specs.declared.spread.ZoneCount.{ZoneCount}
use Rattle.forecast_records.specs.declared.unplaced.Unplaced.{Unplaced}
use Rattle.forecast_records.specs.declared.verdict.Verdict.TheVariants.{Room, Short}
use Rattle.room_facts.specs.Placings.{is_placed, IsAlike, IsPlacing}
use Rattle.room_facts.specs.Rooms.{room_for}
use Rattle.what_if.specs.Plans.{if_none, jobs_left, left_over, stands_before, stands_from, unplaced_at}
use Rattle.what_if.specs.Sites.{with_proxy}
use Rattle.what_if.specs.Verdicts.{verdict_of}
use Rattle.what_if.specs.declared.site.Site.{Site}
use Rattle.what_if.specs.declared.site.Wanted.{Wanted}
use Rattle.loss_cases.specs.declared.fillings.Place.{Place}
use Rattle.loss_cases.specs.declared.trials.Field.{Field}
use Rattle.loss_cases.specs.declared.trials.Trial.{Trial}

-- the number behind that of an instance, if it is of the process
abbrev pub behind : List ℕ → Wanted → ℕ
behind process w = if same_name process w.key.process then w.key.index + 1 else 0

-- the number behind the greatest one that is wanted of the process
abbrev pub next_index : List ℕ → List Wanted → ℕ
next_index process wanted = fold (λ n w. max n (behind process w)) 0 wanted

-- an instance more, with what the proxy beside it takes; its number ends at the last one of 32 bits
abbrev pub job_more : List ℕ → ℕ → Demand → ℕ → Job
job_more process proxy demand index = record {
  job = Lrp (record { process = process; index = min index (2 ^ 32 - 1) });
  memory = with_proxy proxy demand.memory;
  disk = demand.disk;
  tag = demand.tag;
}

-- so many instances more, numbered from there
abbrev pub jobs_more : (ℕ → Job) → ℕ → ℕ → List Job
jobs_more job index n = map (λ k. job (index + k)) (range_with_len 0 n)

-- what a cell takes: what stands there afterwards beside what stood there before
abbrev pub filled_of : Stand → Stand → Filled
filled_of before after = record {
  cell = before.cell;
  zone = before.zone;
  instances = length after.jobs - length before.jobs;
  free = before.free;
  free_left = after.free;
}

-- what each cell takes
abbrev pub each_filled : List Stand → List Stand → List Filled
each_filled befores afters = map (λ p. filled_of p.0 p.1) (zip befores afters)

-- what decides where a cell is told
abbrev pub place_of : Filled → Place
place_of f = record { zone = f.zone; cell = f.cell }

-- by zone, then by name
abbrev pub place_order : Place → Place → Ordering
place_order = then_cmp (on (λ f. f.zone) name_order) (on (λ f. f.cell) name_order)

-- the cells that take some, by zone, then by name
abbrev pub filled_cells : List Stand → List Stand → List Filled
filled_cells befores afters =
    table place_order place_of (filter (λ f. nat_lt 0 f.instances) (each_filled befores afters))

-- how many the zone takes
abbrev pub zone_filled : List Filled → List ℕ → ZoneCount
zone_filled filled zone = record {
  zone = zone;
  instances = sum_by (λ f. f.instances) (filter (λ f. same_name zone f.zone) filled);
}

-- how many each zone takes, by name, without those that take none
abbrev pub zones_filled : List Filled → List ZoneCount
zones_filled filled = map (zone_filled filled) (table name_order (λ z. z) (map (λ f. f.zone) filled))

-- why a job has no room, at its turn; none of these waited
abbrev pub told_at : List Stand → List Job → List Stand → Job → Unplaced
told_at before jobs turn job = unplaced_at (λ j. false) before jobs turn job

-- the first one that is told
abbrev pub first_of : List Unplaced → Option Unplaced
first_of told = slice_get told 0

-- where these jobs of one size go, one after another, on cells that stand so
abbrev pub fitted_on : List Stand → Job → List Job → Fitted
fitted_on stands size jobs = record {
  instances = length jobs;
  placed = count_by is_placed (auction_from stands jobs);
  unplaced = length (jobs_left stands jobs);
  room_for = room_for size stands;
  zones = zones_filled (filled_cells stands (stands_from stands jobs));
  first = first_of (left_over (told_at stands jobs) stands jobs);
  filled = filled_cells stands (stands_from stands jobs);
  verdict = verdict_of stands jobs (jobs_left stands jobs);
}

-- where so many instances more go, on what is free now; what waits isn't placed before them
abbrev pub fit : Site → ℕ → List ℕ → ℕ → Demand → Fitted
fit site proxy process instances demand =
    let job : ℕ → Job = job_more process proxy demand in
    fitted_on (stands_before site []) (job 0) (jobs_more job (next_index process site.wanted) instances)

-- one job more is placed on cells that stand so
pub record TriesOne (field : Field) (job : Job) (stands : List Stand) (old new : Trial) : Type 0 where
  pub placements : new.placements ≡ old.placements ++ placement_on job (best stands job) ∷ []
  pub left : new.left ≡ old.left ++ if_none (best stands job) job []
  pub first : new.first ≡
      option_or old.first (first_of (if_none (best stands job) (told_at field.before.now field.jobs.now stands job) []))

-- all jobs are placed on cells that stand so, which then stand otherwise
pub record TriesAll (field : Field) (old : List Stand) (trial : Trial) (new : List Stand) : Type 0 where
  pub placements : trial.placements ≡ auction_from old field.jobs.now
  pub left : trial.left ≡ jobs_left old field.jobs.now
  pub first : trial.first ≡ first_of (left_over (told_at field.before.now field.jobs.now) old field.jobs.now)
  pub stands : new ≡ stands_from old field.jobs.now

-- as many find room as there is room for, no more could have any, whatever the scheduler, and the verdict says so
pub record Fills (size : Job) (stands : List Stand) (jobs : List Job) (fitted : Fitted) : Type 0 where
  pub placed : fitted.placed ≡ min (length jobs) fitted.room_for
  pub most : (more : List Job) (on : JobName → List ℕ) → All (IsAlike size) more → IsPlacing stands more on →
      length more ≤ fitted.room_for
  pub verdict : fitted.verdict ≡ (if nat_le (length jobs) fitted.room_for then Room else Short)

-- so it is of every site
abbrev pub FitsFill : Type 0
FitsFill =
    (site : Site) (proxy : ℕ) (process : List ℕ) (instances : ℕ) (demand : Demand) →
    Fills (job_more process proxy demand 0) (stands_before site [])
    (jobs_more (job_more process proxy demand) (next_index process site.wanted) instances)
    (fit site proxy process instances demand)
