-- The answer to what stands and waits now.
use Rattle.std.specs.Prelude.{[], length, count_by}
use Rattle.std.specs.List.{flat_map}
use Rattle.forecast_records.specs.declared.stock.Shown.{Shown}
use Rattle.site_answers.specs.Losses.{tasks_on}
use Rattle.what_if.specs.Plans.{jobs_of_loss, left_of, stands_before, unplaced_of}
use Rattle.site_spread.specs.Spread.{by_spread, in_one_zone, on_one_cell, processes, uneven_in}
use Rattle.what_if.specs.Stays.{open_cells, stays, stays_on}
use Rattle.site_answers.specs.Tags.{tag_rooms}
use Rattle.what_if.specs.Verdicts.{verdict_of}
use Rattle.what_if.specs.Waiting.{waits}
use Rattle.site_answers.specs.Zones.{zones_now}
use Rattle.what_if.specs.declared.site.Site.{Site}

-- what stands and waits now; what waits is planned with no cell lost, and all that is left over counts
abbrev pub shown_of : Site → Shown
shown_of site = record {
  cells = length site.cells;
  evacuating = count_by (λ c. c.evacuating) site.cells;
  silent = length site.silent;
  instances = length (flat_map stays_on site.cells);
  processes = length (processes site);
  tasks = length (flat_map tasks_on site.cells);
  crashed = count_by (λ w. w.crashed) site.wanted;
  waiting = length (waits site []);
  tags = tag_rooms site [] (left_of site []);
  unplaced = unplaced_of site [];
  zones = zones_now site;
  uneven = by_spread (uneven_in site (open_cells site []) (stays site []));
  one_cell = on_one_cell site (stays site []);
  one_zone = in_one_zone site (stays site []);
  verdict = verdict_of (stands_before site []) (jobs_of_loss site []) (left_of site []);
}
