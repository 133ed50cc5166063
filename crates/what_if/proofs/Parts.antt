-- The parts of a plan, from what its auction told.
use Rattle.std.proofs.Common.{◌≡◌, ℕ, Bool, List, [], length, map, filter, not, refl, sym, ap, ◌∙◌}
use Rattle.std.specs.List.Sorted.{IsPermutation}
use Rattle.std.proofs.lemmas.List.Elements.{filter_agree}
use Rattle.cell_records.specs.declared.job.Job.{Job}
use Rattle.auctioneer.specs.Asked.{AreJobs}
use Rattle.auctioneer.specs.Auction.{auction_from}
use Rattle.auctioneer.specs.Order.{in_order}
use Rattle.auctioneer.specs.declared.stand.Stand.{Stand}
use Rattle.what_if.specs.Holders.{unplaced_by, IsHolders}
use Rattle.what_if.specs.Placed.{planned_from, planned_on, was_held, PlacesAll}
use Rattle.what_if.specs.Plans.{jobs_left, jobs_of_loss, left_of, left_over, planned, stands_before, stands_from, unplaced_at, without_jobs}
use Rattle.what_if.specs.Stays.{open_cells, stays}
use Rattle.what_if.specs.Verdicts.{verdict_of}
use Rattle.what_if.specs.Waiting.{is_displaced, waits}
use Rattle.what_if.specs.declared.placing.Outcome.{Outcome}
use Rattle.what_if.specs.declared.placing.Setting.{Setting}
use Rattle.what_if.specs.declared.plan.Plan.{Plan}
use Rattle.what_if.specs.declared.site.Site.{Site}
use Rattle.what_if.specs.declared.standing.Holders.{Holders}
use Rattle.what_if.proofs.Bare.{left_agree, unplaced-by_holders, verdict_of-bare}
use Rattle.what_if.proofs.Holding.{displaced-by_holders}
use Rattle.what_if.proofs.Planned.{same_plan}
use Rattle.what_if.proofs.Reordered.{length-reordered, order-reordered}

-- how a plan is made
pub record IsMadeOf (setting : Setting) (outcome : Outcome) (then : List Stand) (waiting : List Job)
    (p : Plan) : Type 0 where
  pub jobs : p.jobs ≡ setting.jobs.now
  pub before : p.before ≡ setting.before.now
  pub placements : p.placements ≡ outcome.placements
  pub left : p.left ≡ outcome.left
  pub without_room : p.without_room ≡ outcome.without_room
  pub stands : p.stands ≡ then
  pub displaced : p.displaced ≡ length (filter (was_held setting.holders.now) waiting)
  pub verdict : p.verdict
      ≡ verdict_of setting.before.now setting.jobs.now (filter (was_held setting.holders.now) outcome.left)

-- so made, it is the plan of the jobs on the cells with which the auction began
pub made_plan : {setting : Setting} {outcome : Outcome} {start then : List Stand} → PlacesAll setting start outcome then
    → (waiting : List Job) → setting.before.now ≡ map without_jobs start → (p : Plan)
    → IsMadeOf setting outcome then waiting p
    → p ≡ planned_from setting.holders.now start waiting setting.jobs.now
made_plan {setting} {outcome} {start} {then} placed waiting bare p made =
    let held : Job → Bool = was_held setting.holders.now in
    let js : List Job = setting.jobs.now in
    same_plan p (planned_from setting.holders.now start waiting js) (record {
      jobs = made.jobs;
      before = made.before ∙ bare;
      placements = made.placements ∙ placed.placements;
      left = made.left ∙ placed.left;
      without_room =
          made.without_room ∙ placed.without_room
          ∙ ap (λ (bs : List Stand). left_over (unplaced_by setting.holders.now bs js) start js) bare;
      stands = made.stands ∙ placed.stands;
      displaced = made.displaced;
      verdict =
          made.verdict
          ∙ ap (λ (bs : List Stand). verdict_of bs js (filter held outcome.left)) bare
          ∙ ap (λ (xs : List Job). verdict_of (map without_jobs start) js (filter held xs)) placed.left;
    })

-- the plan of what waits on the open cells is the plan of the loss
pub plan_of_loss : (site : Site) (lost : List (List ℕ)) (h : Holders) → IsHolders (stays site []) h
    → (waiting : List Job)
    → IsPermutation (waits site lost) waiting → AreJobs (waits site lost)
    → planned_on h (open_cells site lost) waiting ≡ planned site lost
plan_of_loss site lost h held waiting moved apart =
    let ss : List Stand = stands_before site lost in
    let js : List Job = jobs_of_loss site lost in
    let jobs_are : in_order waiting ≡ js = sym (order-reordered (waits site lost) waiting moved apart) in
    let agree : (j : Job) → was_held h j ≡ is_displaced site j.job = λ j. displaced-by_holders site h held j.job in
    same_plan (planned_on h (open_cells site lost) waiting) (planned site lost) (record {
      jobs = jobs_are;
      before = refl;
      placements = ap (auction_from ss) jobs_are;
      left = ap (jobs_left ss) jobs_are;
      without_room =
          ap (λ (xs : List Job). left_over (unplaced_by h (map without_jobs ss) xs) ss xs) jobs_are
          ∙ left_agree (unplaced_by h (map without_jobs ss) js) (unplaced_at (λ j. not (is_displaced site j)) ss js)
          (unplaced-by_holders site h held ss js) ss js;
      stands = ap (stands_from ss) jobs_are;
      displaced =
          length-reordered (was_held h) (waits site lost) waiting moved
          ∙ ap length (filter_agree (was_held h) (λ j. is_displaced site j.job) agree (waits site lost));
      verdict =
          ap (λ (xs : List Job). verdict_of (map without_jobs ss) xs (filter (was_held h) (jobs_left ss xs))) jobs_are
          ∙ verdict_of-bare ss js (filter (was_held h) (left_of site lost))
          ∙ ap (verdict_of ss js) (filter_agree (was_held h) (λ j. is_displaced site j.job) agree (left_of site lost));
    })
