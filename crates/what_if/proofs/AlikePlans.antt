-- Plans on cells that are read alike are the same but for the jobs that the cells have.
use Rattle.std.proofs.Common.{◌≡◌, ℕ, Bool, true, false, not, List, map, filter, max, length, fold, Option, refl, sym, ap, ◌∙◌}
use Rattle.std.specs.List.{All, count_by}
use Rattle.std.proofs.lemmas.List.{length-map}
use Rattle.std.proofs.lemmas.List.Folds.{fold-map}
use Rattle.cell_records.specs.declared.amounts.Amounts.{Amounts}
use Rattle.cell_records.specs.declared.job.Job.{Job}
use Rattle.cell_records.specs.declared.job_name.JobName.{JobName}
use Rattle.auctioneer.specs.declared.stand.Stand.{Stand}
use Rattle.room_facts.specs.Lacks.{has_tag, lacks_just}
use Rattle.room_facts.specs.Reasons.{lacking, most_free, reasons_of}
use Rattle.room_facts.specs.declared.lacking.Lacking.{Lacking}
use Rattle.what_if.specs.Holders.{unplaced_by}
use Rattle.what_if.specs.Placed.{bare_plan, planned_from, was_held}
use Rattle.what_if.specs.Plans.{jobs_left, left_over, stands_from, without_jobs}
use Rattle.what_if.specs.Verdicts.{verdict_of}
use Rattle.what_if.specs.declared.standing.Holders.{Holders}
use Rattle.what_if.proofs.Agreeing.{count-map}
use Rattle.what_if.proofs.AlikeCells.{auction_alike, bare_alike, left_alike, then_alike, AreAlike}
use Rattle.what_if.proofs.Bare.{of_tag-bare}
use Rattle.what_if.proofs.Planned.{same_plan}

-- ---- what is told of a job doesn't depend on which jobs the cells have

lacking-bare : (m d c : Bool) (job : Job) (ss : List Stand) → lacking m d c job (map without_jobs ss)
    ≡ lacking m d c job ss
lacking-bare m d c job ss =
    count-map (lacks_just (record { memory = m; disk = d; containers = c }) job) without_jobs ss

reasons-bare : (job : Job) (ss : List Stand) → reasons_of job (map without_jobs ss) ≡ reasons_of job ss
reasons-bare job ss = λ i. record {
  cells = length-map ss without_jobs i;
  other_tag = count-map (λ (s : Stand). not (has_tag job.tag s)) without_jobs ss i;
  memory = lacking-bare true false false job ss i;
  disk = lacking-bare false true false job ss i;
  containers = lacking-bare false false true job ss i;
  memory_disk = lacking-bare true true false job ss i;
  memory_containers = lacking-bare true false true job ss i;
  disk_containers = lacking-bare false true true job ss i;
  memory_disk_containers = lacking-bare true true true job ss i;
}

most-bare : (f : Amounts → ℕ) (tag : Option (List ℕ)) (ss : List Stand)
    → fold (λ m (s : Stand). max m (f s.free)) 0 (filter (has_tag tag) (map without_jobs ss))
    ≡ fold (λ m (s : Stand). max m (f s.free)) 0 (filter (has_tag tag) ss)
most-bare f tag ss =
    ap (λ (xs : List Stand). fold (λ m (s : Stand). max m (f s.free)) 0 xs) (of_tag-bare tag ss)
    ∙ fold-map (λ m (s : Stand). max m (f s.free)) without_jobs 0 (filter (has_tag tag) ss)

most_free-bare : (tag : Option (List ℕ)) (ss : List Stand) → most_free tag (map without_jobs ss) ≡ most_free tag ss
most_free-bare tag ss = λ i. record {
  memory = most-bare (λ (a : Amounts). a.memory) tag ss i;
  disk = most-bare (λ (a : Amounts). a.disk) tag ss i;
  containers = most-bare (λ (a : Amounts). a.containers) tag ss i;
}

told_alike : (h : Holders) (before : List Stand) (jobs : List Job) (ss ts : List Stand) (job : Job)
    → map without_jobs ss ≡ map without_jobs ts → unplaced_by h before jobs ss job ≡ unplaced_by h before jobs ts job
told_alike h before jobs ss ts job e =
    let reasons : reasons_of job ss ≡ reasons_of job ts =
    sym (reasons-bare job ss) ∙ ap (reasons_of job) e ∙ reasons-bare job ts in
    let free : most_free job.tag ss ≡ most_free job.tag ts =
    sym (most_free-bare job.tag ss) ∙ ap (most_free job.tag) e ∙ most_free-bare job.tag ts in
    λ i. record (unplaced_by h before jobs ss job) { reasons = reasons i; most_free = free i }

-- ---- the plans

module _ (P : JobName → Type 0) (h : Holders) (waiting jobs : List Job) (all : All (λ j. P j.job) jobs)
    (ss ts : List Stand) (alike : AreAlike P ss ts) where
  pub plans_alike : bare_plan (planned_from h ss waiting jobs) ≡ bare_plan (planned_from h ts waiting jobs)
  plans_alike =
      let held : Job → Bool = was_held h in
      let bare : map without_jobs ss ≡ map without_jobs ts = bare_alike P ss ts alike in
      let left : jobs_left ss jobs ≡ jobs_left ts jobs =
      left_alike P (λ turn job. job) (λ xs ys job e. refl) ss ts jobs all alike in
      same_plan (bare_plan (planned_from h ss waiting jobs)) (bare_plan (planned_from h ts waiting jobs)) (record {
        jobs = refl;
        before = bare;
        placements = auction_alike P ss ts jobs all alike;
        left = left;
        without_room =
            ap (λ (bs : List Stand). left_over (unplaced_by h bs jobs) ss jobs) bare
            ∙ left_alike P (unplaced_by h (map without_jobs ts) jobs) (told_alike h (map without_jobs ts) jobs)
            ss ts jobs all alike;
        stands = bare_alike P (stands_from ss jobs) (stands_from ts jobs) (then_alike P ss ts jobs all alike);
        displaced = refl;
        verdict =
            ap (λ (bs : List Stand). verdict_of bs jobs (filter held (jobs_left ss jobs))) bare
            ∙ ap (λ (js : List Job). verdict_of (map without_jobs ts) jobs (filter held js)) left;
      })
