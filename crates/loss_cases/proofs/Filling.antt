-- Of more instances as many find room as there is room for.
use Rattle.std.proofs.Common.{ℕ, ◌+◌, List, [], ◌∷◌, map, refl}
use Rattle.std.specs.List.{All, range_with_len}
use Rattle.std.proofs.lemmas.List.Elements.{All-cons, All-nil}
use Rattle.cell_records.specs.declared.job.Job.{Job}
use Rattle.diego_names.specs.Order.{name_order}
use Rattle.diego_names.proofs.Public.{IsKeyOrder-name_order}
use Rattle.row_tables.specs.Table.{IsRising}
use Rattle.row_tables.proofs.Public.{IsRising-table}
use Rattle.auctioneer.specs.Stands.{stand_of}
use Rattle.auctioneer.specs.declared.stand.Stand.{Stand}
use Rattle.dump_lines.specs.declared.demand.Demand.{Demand}
use Rattle.room_facts.specs.Placings.{IsAlike}
use Rattle.room_facts.proofs.Fills.{alike_fill}
use Rattle.room_facts.proofs.Short.{no_placing_has_more}
use Rattle.what_if.specs.Plans.{stands_before}
use Rattle.what_if.specs.Stays.{open_cells}
use Rattle.what_if.specs.declared.site.Site.{Site}
use Rattle.loss_cases.proofs.Sizes.{verdict_by_room}
use Rattle.loss_cases.specs.Fits.{Fills, fit, job_more, jobs_more, next_index}

-- instances more are of one size
alike : (process : List ℕ) (proxy : ℕ) (demand : Demand) (index : ℕ) (ks : List ℕ)
    → All (IsAlike (job_more process proxy demand 0)) (map (λ k. job_more process proxy demand (index + k)) ks)
alike process proxy demand index [] = All-nil (IsAlike (job_more process proxy demand 0))
alike process proxy demand index (k ∷ ks) =
    All-cons (IsAlike (job_more process proxy demand 0)) (job_more process proxy demand (index + k))
    (map (λ n. job_more process proxy demand (index + n)) ks)
    (record { tag = refl; memory = refl; disk = refl }) (alike process proxy demand index ks)

rising : (site : Site) → IsRising name_order (λ (s : Stand). s.cell) (stands_before site [])
rising site = IsRising-table name_order (λ (s : Stand). s.cell) IsKeyOrder-name_order
    (map stand_of (open_cells site []))

pub fits_fill : (site : Site) (proxy : ℕ) (process : List ℕ) (instances : ℕ) (demand : Demand)
    → Fills (job_more process proxy demand 0) (stands_before site [])
    (jobs_more (job_more process proxy demand) (next_index process site.wanted) instances)
    (fit site proxy process instances demand)
fits_fill site proxy process instances demand =
    let size : Job = job_more process proxy demand 0 in
    let jobs : List Job = jobs_more (job_more process proxy demand) (next_index process site.wanted) instances in
    let same : All (IsAlike size) jobs = alike process proxy demand (next_index process site.wanted)
    (range_with_len 0 instances) in
    let placed = alike_fill size (stands_before site []) jobs (rising site) same in
    record {
      placed = placed;
      verdict = verdict_by_room size (stands_before site []) jobs same placed;
      most = λ more on are_alike placing. no_placing_has_more size (stands_before site []) more are_alike on placing;
    }
