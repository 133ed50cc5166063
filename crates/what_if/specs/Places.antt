-- How the places of cells are looked up.
use Rattle.std.specs.Prelude.{◌≡◌, ℕ, List, Option, None, if◌then◌else◌}
use Rattle.std.specs.HashMap.{get}
use Rattle.std.specs.Option.{option_and_then, option_map}
use Rattle.auctioneer.specs.Stands.{same_name}
use Rattle.dump_lines.specs.declared.cell_state.Place.{Place}
use Rattle.dump_lines.specs.declared.rows.ActualRow.{ActualRow}
use Rattle.what_if.specs.Sites.{has_started, place_in, stay_on}
use Rattle.what_if.specs.declared.silence.Places.{Places}
use Rattle.what_if.specs.declared.site.Stay.{Stay}

-- the place of the cell, as it is looked up
abbrev pub place_by : Places → List ℕ → Option Place
place_by places cell = get same_name places.places cell

-- each cell is found at the first of its places
abbrev pub IsPlaces : List Place → Places → Type 0
IsPlaces list places = (cell : List ℕ) → place_by places cell ≡ place_in list cell

-- where a row says that its instance stands, as cells are looked up
abbrev pub stay_by : Places → ActualRow → Option Stay
stay_by places r = option_map (stay_on r.instance) (option_and_then (place_by places) r.cell)

-- the same, if the row is claimed or running
abbrev pub silent_stay_by : Places → ActualRow → Option Stay
silent_stay_by places r = if has_started r.state then stay_by places r else None
