-- What happens where cells are emptied in batches, told as a whole.
use Rattle.std.specs.Prelude.{ℕ, List, [], length, Option}
use Rattle.cell_records.specs.declared.job_name.JobName.{JobName}
use Rattle.forecast_records.specs.declared.drains.Drained.{Drained}
use Rattle.forecast_records.specs.declared.drains.Step.{Step}
use Rattle.site_answers.specs.Zones.{zones_then}
use Rattle.site_spread.specs.Spread.{uneven_in}
use Rattle.what_if.specs.Plans.{stands_before}
use Rattle.what_if.specs.Stays.{open_cells, stays}
use Rattle.what_if.specs.declared.site.Site.{Site}
use Rattle.cell_drains.specs.Batches.{batches}
use Rattle.cell_drains.specs.Drains.{bad_steps, empty_cells, jobs_moved, site_then, steps_from, worst_of}
use Rattle.cell_drains.specs.Moves.{most_moves}
use Rattle.cell_drains.specs.Seats.{in_drain}
use Rattle.cell_drains.specs.Steps.{levelled}
use Rattle.cell_drains.specs.declared.batches.Batch.{Batch}

-- how many processes are uneven as they stand, and none lost
abbrev pub count_uneven : Site → ℕ
count_uneven site = length (uneven_in site (open_cells site []) (stays site []))

-- what a drain comes to that leaves this site behind its last step, with its steps and the jobs that they place
abbrev pub drained_by : Site → ℕ → ℕ → Site → List Step → List JobName → Drained
drained_by site cells at_a_time last steps moved = record {
  cells = cells;
  at_a_time = at_a_time;
  bad_steps = bad_steps steps;
  moves = length moved;
  most_moves = most_moves moved;
  empty = empty_cells last;
  uneven_before = count_uneven site;
  uneven = count_uneven last;
  steps = steps;
  zones = zones_then site (stands_before last []);
  verdict = worst_of steps;
}

-- what the batches come to
abbrev pub drained_from : Site → ℕ → ℕ → List Batch → Drained
drained_from site cells at_a_time bs =
    drained_by site cells at_a_time (site_then site bs) (steps_from 1 site bs) (jobs_moved site bs)

-- what happens where the cells are emptied in batches of at most so many
abbrev pub drain : Site → ℕ → Option (List (List ℕ)) → Drained
drain site at_a_time names =
    drained_from (levelled site) (length (in_drain site names)) at_a_time (batches at_a_time (in_drain site names))
