-- What a drain comes to, by its parts.
use Rattle.std.proofs.Common.{◌≡◌, ℕ, List, length, Option, ap, ◌∙◌}
use Rattle.cell_records.specs.declared.job_name.JobName.{JobName}
use Rattle.forecast_records.specs.declared.drains.Step.{Step}
use Rattle.what_if.specs.declared.site.Site.{Site}
use Rattle.cell_drains.specs.Batches.{batches}
use Rattle.cell_drains.specs.Courses.{TakesAll}
use Rattle.cell_drains.specs.Drained.{drain, drained_by, drained_from}
use Rattle.cell_drains.specs.Drains.{jobs_moved, site_then, steps_from}
use Rattle.cell_drains.specs.Seats.{in_drain}
use Rattle.cell_drains.specs.Steps.{levelled}
use Rattle.cell_drains.specs.declared.batches.Batch.{Batch}
use Rattle.cell_drains.specs.declared.drains.Course.{Course}
use Rattle.cell_drains.specs.declared.seats.Seat.{Seat}

-- the batches that were emptied, from the site that they began with
pub by_course : (site start : Site) (cells most : ℕ) (cut : List Batch) (course : Course) → TakesAll start cut course
    → site ≡ start → drained_by site cells most course.site course.steps course.moved.items
    ≡ drained_from start cells most cut
by_course site start cells most cut course h same =
    ap (λ (s : Site). drained_by site cells most s course.steps course.moved.items) h.site
    ∙ ap (λ (ss : List Step). drained_by site cells most (site_then start cut) ss course.moved.items) h.steps
    ∙ ap (λ (js : List JobName). drained_by site cells most (site_then start cut) (steps_from 1 start cut) js) h.moved
    ∙ ap (λ (s : Site). drained_by s cells most (site_then start cut) (steps_from 1 start cut) (jobs_moved start cut))
    same

-- of the cells in their order
pub in_all : (site start : Site) (names : Option (List (List ℕ))) (most : ℕ) (order : List Seat) (cut : List Batch)
    → start ≡ levelled site → order ≡ in_drain site names → cut ≡ batches most order
    → drained_from start (length order) most cut ≡ drain site most names
in_all site start names most order cut level in_order in_batches =
    ap (λ (s : Site). drained_from s (length order) most cut) level
    ∙ ap (λ (bs : List Batch). drained_from (levelled site) (length order) most bs) in_batches
    ∙ ap (λ (ss : List Seat). drained_from (levelled site) (length ss) most (batches most ss)) in_order
