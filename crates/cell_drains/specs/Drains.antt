-- What happens where cells are emptied in batches. What a step leaves is what the next one begins with.
use Rattle.std.specs.Prelude.{ℕ, ◌+◌, ◌==◌, Bool, true, false, not, List, [], ◌∷◌, ◌++◌, filter, fold, length, count_by}
use Rattle.cell_records.specs.declared.job_name.JobName.{JobName}
use Rattle.forecast_records.specs.declared.drains.Step.{Step}
use Rattle.forecast_records.specs.declared.verdict.Verdict.{Verdict}
use Rattle.forecast_records.specs.declared.verdict.Verdict.TheVariants.{Room, Unplaced, Short}
use Rattle.room_facts.specs.Lacks.{has_tag}
use Rattle.room_facts.specs.Rooms.{free_in_all}
use Rattle.site_answers.specs.Sums.{as_sums}
use Rattle.what_if.specs.Plans.{planned}
use Rattle.what_if.specs.Verdicts.{worse}
use Rattle.what_if.specs.declared.plan.Plan.{Plan}
use Rattle.what_if.specs.declared.site.Site.{Site}
use Rattle.cell_drains.specs.Moves.{placed_in}
use Rattle.cell_drains.specs.Steps.{after_step}
use Rattle.cell_drains.specs.declared.batches.Batch.{Batch}

-- the step that this plan is
abbrev pub step_from : ℕ → Batch → Plan → Step
step_from number batch plan = record {
  step = number;
  zone = batch.zone;
  tag = batch.tag;
  cells = batch.cells;
  displaced = plan.displaced;
  unplaced = count_by (λ u. not u.waited) plan.without_room;
  waiting_unplaced = count_by (λ u. u.waited) plan.without_room;
  free_left = as_sums (free_in_all (filter (has_tag batch.tag) plan.stands));
  without_room = plan.without_room;
  verdict = plan.verdict;
}

-- the steps, counted from there, each on the site that the one before leaves
abbrev pub steps_from : ℕ → Site → List Batch → List Step
steps_from number site [] = []
steps_from number site (b ∷ bs) =
    step_from number b (planned site b.cells) ∷ steps_from (number + 1) (after_step site b.cells) bs

-- the site behind the last step
abbrev pub site_then : Site → List Batch → Site
site_then site [] = site
site_then site (b ∷ bs) = site_then (after_step site b.cells) bs

-- the jobs that the steps place, each as often as it is placed
abbrev pub jobs_moved : Site → List Batch → List JobName
jobs_moved site [] = []
jobs_moved site (b ∷ bs) =
    placed_in (planned site b.cells).placements ++ jobs_moved (after_step site b.cells) bs

-- how many cells that told their state have no container
abbrev pub empty_cells : Site → ℕ
empty_cells site = count_by (λ c. length c.containers == 0) site.cells

-- whether all find room
abbrev pub is_room : Verdict → Bool
is_room Room = true
is_room Unplaced = false
is_room Short = false

-- how many of the steps don't find room
abbrev pub bad_steps : List Step → ℕ
bad_steps steps = count_by (λ s. not (is_room s.verdict)) steps

-- the worst verdict of the steps
abbrev pub worst_of : List Step → Verdict
worst_of steps = fold (λ worst s. worse worst s.verdict) Room steps
