-- The parts of the answers, and what is told of them.
use Rattle.std.specs.Prelude.{◌≡◌, ℕ, ◌-◌, [], List, length, count_by, Option, Some, None}
use Rattle.std.specs.List.{flat_map}
use Rattle.auctioneer.specs.declared.placement.Placement.{Placement}
use Rattle.auctioneer.specs.declared.placement.Placement.TheVariants.{On, NoRoom}
use Rattle.forecast_records.specs.declared.losses.Lost.{Lost}
use Rattle.forecast_records.specs.declared.losses.Move.{Move}
use Rattle.forecast_records.specs.declared.stock.Shown.{Shown}
use Rattle.site_answers.specs.Losses.{dark_of, dark_of_many, moves_of, tasks_lost, tasks_on, uneven_then}
use Rattle.site_spread.specs.Spread.{by_spread, in_one_zone, on_one_cell, processes, uneven_in}
use Rattle.site_answers.specs.Tags.{tag_rooms}
use Rattle.site_answers.specs.Zones.{zones_now, zones_then}
use Rattle.site_answers.specs.declared.losing.LossParts.{LossParts}
use Rattle.site_answers.specs.declared.showing.ShownParts.{ShownParts}
use Rattle.what_if.specs.Holders.{found_before}
use Rattle.what_if.specs.Plans.{displaced_left, jobs_of_loss, left_of, plan, stands_before, stands_then}
use Rattle.what_if.specs.Stays.{open_cells, stays, stays_on}
use Rattle.what_if.specs.Verdicts.{verdict_of}
use Rattle.what_if.specs.declared.plan.Plan.{Plan}
use Rattle.what_if.specs.declared.site.Site.{Site}
use Rattle.what_if.specs.declared.standing.Holders.{Holders}

-- the move that a placement is, as cells are looked up
abbrev pub move_by : Holders → Placement → Option Move
move_by before (On job cell) = Some (record { job = job; from = found_before before job; to = cell })
move_by before (NoRoom job) = None

-- the parts are those of the loss
pub record HasLossParts (site : Site) (lost : List (List ℕ)) (parts : LossParts) : Type 0 where
  pub counting : parts.counting.items ≡ displaced_left site lost
  pub tasks : parts.tasks ≡ tasks_lost site lost
  pub dark : parts.dark.items ≡ dark_of site lost
  pub dark_of_many : parts.dark_of_many.items ≡ dark_of_many site lost
  pub uneven : parts.uneven.items ≡ uneven_then site lost
  pub tags : parts.tags ≡ tag_rooms site lost (displaced_left site lost)
  pub zones : parts.zones ≡ zones_then site (stands_then site lost)
  pub moves : parts.moves.items ≡ moves_of site (plan site lost)

-- what is told of the loss of so many cells
abbrev pub lost_from : ℕ → Plan → LossParts → Lost
lost_from cells plan parts = record {
  cells = cells;
  displaced = plan.displaced;
  unplaced = length parts.counting.items;
  waiting = length plan.jobs - plan.displaced;
  waiting_unplaced = length plan.left - length parts.counting.items;
  tasks = parts.tasks;
  dark = length parts.dark.items;
  dark_of_many = parts.dark_of_many.items;
  uneven = length parts.uneven.items;
  tags = parts.tags;
  without_room = plan.without_room;
  zones = parts.zones;
  moves = parts.moves.items;
  verdict = plan.verdict;
}

-- the parts are those of what stands and waits now
pub record HasShownParts (site : Site) (parts : ShownParts) : Type 0 where
  pub instances : parts.instances ≡ length (flat_map stays_on site.cells)
  pub processes : parts.processes.items ≡ processes site
  pub tasks : parts.tasks ≡ length (flat_map tasks_on site.cells)
  pub tags : parts.tags ≡ tag_rooms site [] (left_of site [])
  pub zones : parts.zones ≡ zones_now site
  pub uneven : parts.uneven.items ≡ by_spread (uneven_in site (open_cells site []) (stays site []))
  pub one_cell : parts.together.on_cell ≡ on_one_cell site (stays site [])
  pub one_zone : parts.together.in_zone ≡ in_one_zone site (stays site [])
  pub verdict : parts.verdict ≡ verdict_of (stands_before site []) (jobs_of_loss site []) (left_of site [])

-- what is told of what stands and waits now
abbrev pub shown_from : Site → Plan → ShownParts → Shown
shown_from site plan parts = record {
  cells = length site.cells;
  evacuating = count_by (λ c. c.evacuating) site.cells;
  silent = length site.silent;
  instances = parts.instances;
  processes = length parts.processes.items;
  tasks = parts.tasks;
  crashed = count_by (λ w. w.crashed) site.wanted;
  waiting = length plan.jobs;
  tags = parts.tags;
  unplaced = plan.without_room;
  zones = parts.zones;
  uneven = parts.uneven.items;
  one_cell = parts.together.on_cell;
  one_zone = parts.together.in_zone;
  verdict = parts.verdict;
}
