-- The answer to what happens where cells are lost at once.
use Rattle.std.specs.Prelude.{ℕ, ◌-◌, ◌==◌, Bool, true, false, ◌&&◌, nat_lt, nat_le, List, [], ◌++◌, map, filter, length, count_by, Option, Some, None}
use Rattle.std.specs.List.{filter_map, flat_map}
use Rattle.cell_records.specs.declared.answer.Answer.{Answer}
use Rattle.cell_records.specs.declared.container.Container.{Container}
use Rattle.cell_records.specs.declared.job_name.JobName.{JobName}
use Rattle.cell_records.specs.declared.job_name.JobName.TheVariants.{Lrp, Task}
use Rattle.auctioneer.specs.Stands.{same_name}
use Rattle.auctioneer.specs.declared.placement.Placement.{Placement}
use Rattle.auctioneer.specs.declared.placement.Placement.TheVariants.{On, NoRoom}
use Rattle.forecast_records.specs.declared.losses.Lost.{Lost}
use Rattle.forecast_records.specs.declared.losses.Move.{Move}
use Rattle.forecast_records.specs.declared.spread.Uneven.{Uneven}
use Rattle.what_if.specs.Plans.{plan, left_of, displaced_left, stands_then, unplaced_of, verdict_of_loss}
use Rattle.site_spread.specs.Spread.{processes, uneven_in}
use Rattle.what_if.specs.Stays.{is_held, is_lost, open_cells, stays_after}
use Rattle.site_answers.specs.Tags.{tag_rooms}
use Rattle.what_if.specs.Waiting.{displaced, does_wait, held_before, waits}
use Rattle.site_answers.specs.Zones.{zones_then}
use Rattle.what_if.specs.declared.site.Site.{Site}
use Rattle.what_if.specs.declared.site.Wanted.{Wanted}

-- whether a container is a task's
abbrev pub is_task : JobName → Bool
is_task (Lrp key) = false
is_task (Task name) = true

-- the containers of tasks on a cell
abbrev pub tasks_on : Answer → List Container
tasks_on c = filter (λ k. is_task k.job) c.containers

-- the containers of tasks on the lost cells
abbrev pub tasks_lost : Site → List (List ℕ) → ℕ
tasks_lost site lost = length (flat_map tasks_on (filter (λ c. is_lost lost c.cell) site.cells))

-- the move that a placement is
abbrev pub move_of : Site → Placement → Option Move
move_of site (On job cell) = Some (record { job = job; from = held_before site job; to = cell })
move_of site (NoRoom job) = None

-- where the placed go, in the order of the auction
abbrev pub moves_of : Site → List Placement → List Move
moves_of site placements = filter_map (move_of site) placements

-- the process of an instance that is wanted
abbrev pub process_of : Wanted → List ℕ
process_of w = w.key.process

-- how often the name is among those
abbrev pub times : List ℕ → List (List ℕ) → ℕ
times name names = count_by (same_name name) names

-- the process of each wanted instance that waits because of the loss
abbrev pub displaced_processes : Site → List (List ℕ) → List (List ℕ)
displaced_processes site lost =
    map process_of (filter (λ w. does_wait site lost w && is_held site [] w.key) site.wanted)

-- the process of each wanted instance that is held
abbrev pub held_processes : Site → List (List ℕ) → List (List ℕ)
held_processes site lost = map process_of (filter (λ w. is_held site lost w.key) site.wanted)

-- whether the process runs nowhere in the meantime: it has displaced instances, and none that is held
abbrev pub is_dark : Site → List (List ℕ) → List ℕ → Bool
is_dark site lost process =
    nat_lt 0 (times process (displaced_processes site lost)) && (times process (held_processes site lost) == 0)

-- the processes that run nowhere in the meantime, by name
abbrev pub dark_of : Site → List (List ℕ) → List (List ℕ)
dark_of site lost = filter (is_dark site lost) (map process_of (processes site))

-- whether two instances of the process or more are wanted
abbrev pub is_of_many : List Wanted → List ℕ → Bool
is_of_many wanted process = nat_le 2 (times process (map process_of wanted))

-- those of them of which two instances or more are wanted
abbrev pub dark_of_many : Site → List (List ℕ) → List (List ℕ)
dark_of_many site lost = filter (is_of_many site.wanted) (dark_of site lost)

-- the processes that are uneven once all that waits is placed
abbrev pub uneven_then : Site → List (List ℕ) → List Uneven
uneven_then site lost = uneven_in site (open_cells site lost) (stays_after site lost (stands_then site lost))

-- what the loss of these cells does
abbrev pub lost_of : Site → List (List ℕ) → Lost
lost_of site lost = record {
  cells = length lost;
  displaced = length (displaced site lost);
  unplaced = length (displaced_left site lost);
  waiting = length (waits site lost) - length (displaced site lost);
  waiting_unplaced = length (left_of site lost) - length (displaced_left site lost);
  tasks = tasks_lost site lost;
  dark = length (dark_of site lost);
  dark_of_many = dark_of_many site lost;
  uneven = length (uneven_then site lost);
  tags = tag_rooms site lost (displaced_left site lost);
  without_room = unplaced_of site lost;
  zones = zones_then site (stands_then site lost);
  moves = moves_of site (plan site lost);
  verdict = verdict_of_loss site lost;
}

-- the cells of a zone: those that told their state, then the silent ones
abbrev pub cells_of_zone : Site → List ℕ → List (List ℕ)
cells_of_zone site zone =
    map (λ c. c.cell) (filter (λ c. same_name zone c.zone) site.cells)
    ++ map (λ p. p.cell) (filter (λ p. same_name zone p.zone) site.silent)
