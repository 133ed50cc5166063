-- One step of a drain more.
use Rattle.std.proofs.Common.{◌≡◌, ℕ, ◌+◌, ◌≤◌, ◌^◌, List, [], ◌∷◌, ◌++◌, length, map, Option, Some, None, refl, sym, ap, subst, ◌∙◌, arith}
use Rattle.std.specs.Prelude.{if◌then◌else◌}
use Rattle.std.proofs.lemmas.List.{append_assoc, length-map}
use Rattle.diego_names.specs.Order.{name_order}
use Rattle.cell_records.specs.declared.answer.Answer.{Answer}
use Rattle.cell_records.specs.declared.amounts.Amounts.{Amounts}
use Rattle.cell_records.specs.declared.job.Job.{Job}
use Rattle.cell_records.specs.declared.job_name.JobName.{JobName}
use Rattle.auctioneer.specs.Auction.{stands_with}
use Rattle.auctioneer.specs.Least.{best}
use Rattle.auctioneer.specs.Stands.{same_name, stand_of, stands_of, with_job}
use Rattle.auctioneer.specs.declared.stand.Stand.{Stand}
use Rattle.forecast_records.specs.declared.drains.Step.{Step}
use Rattle.room_facts.specs.Rooms.{amounts_of}
use Rattle.room_facts.specs.declared.sums.Sums.{Sums}
use Rattle.room_facts.proofs.Lists.{sum_by-ones}
use Rattle.site_answers.specs.Sums.{as_sums}
use Rattle.what_if.specs.Plans.{jobs_of_loss, planned, stands_before, stands_from}
use Rattle.what_if.specs.Sites.{IsSite}
use Rattle.what_if.specs.Stays.{is_open, open_cells}
use Rattle.what_if.specs.declared.plan.Plan.{Plan}
use Rattle.what_if.specs.declared.site.Site.{Site}
use Rattle.what_if.proofs.Differing.{sum-table}
use Rattle.what_if.proofs.Lists.{shorter}
use Rattle.cell_drains.specs.Courses.{TakesStep}
use Rattle.cell_drains.specs.Drains.{jobs_moved, site_then, step_from, steps_from}
use Rattle.cell_drains.specs.Moves.{placed_in}
use Rattle.cell_drains.specs.declared.batches.Batch.{Batch}
use Rattle.cell_drains.specs.declared.drains.Course.{Course}

-- sums by their amounts
pub sums_from_amounts : (s : Sums) (a : Amounts) → amounts_of s ≡ a → s ≡ as_sums a
sums_from_amounts s a e = ap as_sums e

-- a plan has no more cells than the site
as_many : (found : Option Stand) (ss : List Stand) (job : Job) → length (stands_with job found ss) ≡ length ss
as_many None ss job = refl
as_many (Some s) ss job = length-map ss (λ (t : Stand). if same_name t.cell s.cell then with_job job t else t)

as_many_then : (ss : List Stand) (jobs : List Job) → length (stands_from ss jobs) ≡ length ss
as_many_then ss [] = refl
as_many_then ss (job ∷ jobs) = as_many_then (stands_with job (best ss job) ss) jobs ∙ as_many (best ss job) ss job

-- a table of cells has no more of them
stands_few : (cells : List Answer) → length (stands_of cells) ≤ length cells
stands_few cells =
    let all = sum-table name_order (λ (s : Stand). s.cell) (λ s. 1) (map stand_of cells) in
    let told = sum_by-ones (λ (s : Stand). 1) (stands_of cells) (λ s i. refl) in
    let given = sum_by-ones (λ (s : Stand). 1) (map stand_of cells) (λ s i. refl) in
    omega (arith, all, told, given, length-map cells stand_of)

pub few_planned : (site : Site) (batch : List (List ℕ)) → IsSite site → (p : Plan) → p ≡ planned site batch
    → length p.stands ≤ 2 ^ 32
few_planned site batch h p is =
    let fewer : length (open_cells site batch) ≤ length site.cells = shorter (is_open batch) site.cells in
    let all : length (stands_from (stands_before site batch) (jobs_of_loss site batch))
    ≡ length (stands_before site batch) = as_many_then (stands_before site batch) (jobs_of_loss site batch) in
    subst (λ (q : Plan). length q.stands ≤ 2 ^ 32) (sym is)
    (omega (arith, all, stands_few (open_cells site batch), fewer, h.cells.few))

-- the steps, the jobs that were placed and the site behind the last step, with one batch more
module _ (old new : Course) (number : ℕ) (b : Batch) (h : TakesStep old number b new) (rest : List Batch) where
  pub steps_next : new.steps ++ steps_from (number + 1) new.site rest ≡ old.steps
      ++ steps_from number old.site (b ∷ rest)
  steps_next =
      ap (λ (ss : List Step). ss ++ steps_from (number + 1) new.site rest) h.steps
      ∙ append_assoc old.steps (step_from number b (planned old.site b.cells) ∷ [])
      (steps_from (number + 1) new.site rest)
      ∙ ap (λ (s : Site). old.steps ++ step_from number b (planned old.site b.cells) ∷ steps_from (number + 1) s rest)
      h.site

  pub moved_next : new.moved.items ++ jobs_moved new.site rest ≡ old.moved.items ++ jobs_moved old.site (b ∷ rest)
  moved_next =
      ap (λ (js : List JobName). js ++ jobs_moved new.site rest) h.moved
      ∙ append_assoc old.moved.items (placed_in (planned old.site b.cells).placements) (jobs_moved new.site rest)
      ∙ ap (λ (s : Site). old.moved.items ++ (placed_in (planned old.site b.cells).placements ++ jobs_moved s rest))
      h.site

  pub site_next : site_then new.site rest ≡ site_then old.site (b ∷ rest)
  site_next = ap (λ (s : Site). site_then s rest) h.site
