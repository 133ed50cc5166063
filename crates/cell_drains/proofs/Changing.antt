-- What is looked up of a step is what the step does.
use Rattle.std.proofs.Common.{◌≡◌, ℕ, Bool, false, cond, ◌||◌, List, [], ◌∷◌, length, map, filter, refl, sym, ap, ◌∙◌}
use Rattle.std.specs.List.{filter_map, list_any}
use Rattle.std.proofs.lemmas.List.{length-map}
use Rattle.std.proofs.lemmas.List.Elements.{filter_agree}
use Rattle.cell_records.specs.declared.answer.Answer.{Answer}
use Rattle.cell_records.specs.declared.job.Job.{Job}
use Rattle.cell_records.specs.declared.job_name.JobName.{JobName}
use Rattle.cell_records.specs.declared.job_name.JobName.TheVariants.{Lrp, Task}
use Rattle.auctioneer.specs.Auction.{auction_from}
use Rattle.auctioneer.specs.Laws.{job_in}
use Rattle.auctioneer.specs.declared.placement.Placement.{Placement}
use Rattle.auctioneer.specs.declared.placement.Placement.TheVariants.{On, NoRoom}
use Rattle.auctioneer.specs.declared.stand.Stand.{Stand}
use Rattle.auctioneer.proofs.Public.{jobs_placed}
use Rattle.what_if.specs.Plans.{jobs_of_loss, planned}
use Rattle.what_if.specs.Stays.{is_lost}
use Rattle.what_if.specs.declared.plan.Plan.{Plan}
use Rattle.what_if.specs.declared.site.Site.{Site}
use Rattle.what_if.proofs.Names.{names_turned}
use Rattle.cell_drains.specs.Changes.{changed_by, jobs_by, task_left, waits_by, IsChange}
use Rattle.cell_drains.specs.Steps.{after_batch, after_step, emptied, leaves, with_jobs}
use Rattle.cell_drains.specs.declared.changes.Change.{Change}

-- a task is left if a placement leaves it
pub left-from_names : (name : List ℕ) (ps : List Placement)
    → is_lost (filter_map task_left ps) name ≡ list_any (leaves (Task name)) ps
left-from_names name [] = refl
left-from_names name (On job cell ∷ ps) = left-from_names name ps
left-from_names name (NoRoom (Lrp key) ∷ ps) = left-from_names name ps
left-from_names name (NoRoom (Task other) ∷ ps) = λ i. names_turned other name i || left-from_names name ps i

-- there is a placement for each job
pub as_many_placed : (stands : List Stand) (jobs : List Job) → length (auction_from stands jobs) ≡ length jobs
as_many_placed stands jobs =
    sym (length-map (auction_from stands jobs) job_in) ∙ ap length (jobs_placed stands jobs) ∙ length-map jobs
    (λ j. j.job)

pub as_many_planned : (site : Site) (batch : List (List ℕ)) (p : Plan) → p ≡ planned site batch
    → length p.placements ≡ length p.jobs
as_many_planned site batch p is =
    ap (λ (q : Plan). length q.placements) is
    ∙ as_many_placed _ (jobs_of_loss site batch)
    ∙ sym (ap (λ (q : Plan). length q.jobs) is)

module _ (batch : List (List ℕ)) (jobs : List Job) (ps : List Placement) (change : Change)
    (h : IsChange batch jobs ps change) where
  -- what a cell is after the step
  changed_cell : (c : Answer) → changed_by change c ≡ after_batch batch jobs ps c
  changed_cell c =
      ap (λ (b : Bool). cond b (emptied c) (with_jobs (jobs_by change.placed c.cell) c)) (h.gone c.cell)
      ∙ ap (λ (js : List Job). cond (is_lost batch c.cell) (emptied c) (with_jobs js c)) (h.placed c.cell)

  pub changed_cells : (cs : List Answer) → map (changed_by change) cs ≡ map (after_batch batch jobs ps) cs
  changed_cells [] = refl
  changed_cells (c ∷ cs) = λ i. changed_cell c i ∷ changed_cells cs i

  -- and which tasks still wait
  waits_still : (job : JobName) → waits_by change job ≡ list_any (leaves job) ps
  waits_still (Task name) = h.left name
  waits_still (Lrp key) = sym (none_leaves ps)
    where
      none_leaves : (qs : List Placement) → list_any (leaves (Lrp key)) qs ≡ false
      none_leaves [] = refl
      none_leaves (q ∷ qs) = none_leaves qs

  pub changed_pending : (js : List Job) → filter (λ j. waits_by change j.job) js
      ≡ filter (λ j. list_any (leaves j.job) ps) js
  changed_pending js = filter_agree (λ (j : Job). waits_by change j.job) (λ j. list_any (leaves j.job) ps)
      (λ j. waits_still j.job) js

abbrev site_from : Site → List Answer → List Job → Site
site_from site cells pending = record site { cells = cells; pending = pending }

-- so the site is that after the step
pub changed_site : (site : Site) (batch : List (List ℕ)) (p : Plan) → p ≡ planned site batch → (change : Change)
    → IsChange batch p.jobs p.placements change → (next : Site)
    → next ≡ record site {
      cells = map (changed_by change) site.cells;
      pending =
          filter (λ j. waits_by change j.job) site.pending;
    } → next ≡ after_step site batch
changed_site site batch p is change h next made =
    made
    ∙ ap (λ (cs : List Answer). site_from site cs (filter (λ j. waits_by change j.job) site.pending))
    (changed_cells batch p.jobs p.placements change h site.cells)
    ∙ ap (λ (js : List Job). site_from site (map (after_batch batch p.jobs p.placements) site.cells) js)
    (changed_pending batch p.jobs p.placements change h site.pending)
    ∙ ap (λ (q : Plan). site_from site (map (after_batch batch q.jobs q.placements) site.cells)
    (filter (λ j. list_any (leaves j.job) q.placements) site.pending)) is
