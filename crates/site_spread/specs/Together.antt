-- How it is looked up which processes are all in one place.
use Rattle.std.specs.Prelude.{◌≡◌, ℕ, ◌==◌, ◌&&◌, nat_le, List, Option, Some, None, if◌then◌else◌, unwrap_or}
use Rattle.std.specs.HashMap.{get}
use Rattle.std.specs.List.{find}
use Rattle.std.specs.Option.{option_and_then, option_map}
use Rattle.auctioneer.specs.Stands.{same_name}
use Rattle.dump_lines.specs.declared.cell_state.Place.{Place}
use Rattle.forecast_records.specs.declared.spread.InOneZone.{InOneZone}
use Rattle.forecast_records.specs.declared.spread.OnOneCell.{OnOneCell}
use Rattle.site_spread.specs.Spots.{counted_at}
use Rattle.site_spread.specs.Spread.{instances_in, instances_on, is_of_process, standing}
use Rattle.site_spread.specs.declared.tallies.Tallies.{Tallies}
use Rattle.what_if.specs.declared.site.Stay.{Stay}
use Rattle.what_if.specs.declared.site.Wanted.{Wanted}

-- how many instances of the process were counted
abbrev pub standing_by : Tallies → List ℕ → ℕ
standing_by tallies process = unwrap_or (get same_name tallies.standing process) 0

-- the cell and the zone of an instance
abbrev pub place_of : Stay → Place
place_of s = record { cell = s.cell; zone = s.zone }

-- where the first instance of the process stands
abbrev pub first_place : List Stay → List ℕ → Option Place
first_place stays process = option_map place_of (find (is_of_process process) stays)

-- the same, as it is looked up
abbrev pub first_by : Tallies → List ℕ → Option Place
first_by tallies process = get same_name tallies.first process

-- the tallies are those of these instances
pub record AreTallies (stays : List Stay) (tallies : Tallies) : Type 0 where
  pub standing : (process : List ℕ) → standing_by tallies process ≡ standing stays process
  pub on_cell : (process cell : List ℕ) → counted_at tallies.on_cell process cell ≡ instances_on stays process cell
  pub in_zone : (process zone : List ℕ) → counted_at tallies.in_zone process zone ≡ instances_in stays process zone
  pub first : (process : List ℕ) → first_by tallies process ≡ first_place stays process

-- the process, if all of it is on the cell, as it is looked up
abbrev pub one_cell_by : Tallies → List ℕ → Place → Option OnOneCell
one_cell_by tallies process p =
    if nat_le 2 (standing_by tallies process) && (standing_by tallies process == counted_at tallies.on_cell process p.cell)
    then Some (record { process = process; instances = standing_by tallies process; cell = p.cell; zone = p.zone })
    else None

-- the process, if all of it is on the cell of its first instance
abbrev pub on_cell_by : Tallies → Wanted → Option OnOneCell
on_cell_by tallies w = option_and_then (one_cell_by tallies w.key.process) (first_by tallies w.key.process)

-- the process, if all of it is in the zone, as it is looked up
abbrev pub one_zone_by : Tallies → List ℕ → Place → Option InOneZone
one_zone_by tallies process p =
    if nat_le 2 (standing_by tallies process) && (standing_by tallies process == counted_at tallies.in_zone process p.zone)
    then Some (record { process = process; instances = standing_by tallies process; zone = p.zone })
    else None

-- the process, if all of it is in the zone of its first instance
abbrev pub in_zone_by : Tallies → Wanted → Option InOneZone
in_zone_by tallies w = option_and_then (one_zone_by tallies w.key.process) (first_by tallies w.key.process)
