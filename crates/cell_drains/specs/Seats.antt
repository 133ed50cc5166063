-- The cells that an update empties, and the order in which they go. Silent cells are none of them.
use Rattle.std.specs.Prelude.{ℕ, List, Option, Some, None, map, find, filter_map}
use Rattle.std.specs.Option.{option_cmp}
use Rattle.std.specs.Ordering.{on, then_cmp}
use Rattle.std.specs.declared.cmp.Ordering.{Ordering}
use Rattle.row_tables.specs.Table.{table}
use Rattle.diego_names.specs.Order.{name_order}
use Rattle.cell_records.specs.declared.answer.Answer.{Answer}
use Rattle.auctioneer.specs.Stands.{same_name}
use Rattle.what_if.specs.declared.site.Site.{Site}
use Rattle.cell_drains.specs.declared.seats.Seat.{Seat}

-- a cell with its tag and its zone
abbrev pub seat_of : Answer → Seat
seat_of a = record { tag = a.tag; zone = a.zone; cell = a.cell }

-- the cells that told their state
abbrev pub seats : Site → List Seat
seats site = map seat_of site.cells

-- by tag with none first, then by zone, then by name
abbrev pub seat_order : Seat → Seat → Ordering
seat_order =
    then_cmp (on (λ s. s.tag) (option_cmp name_order)) (then_cmp (on (λ s. s.zone) name_order) (on (λ s. s.cell) name_order))

-- the cells in that order
abbrev pub by_seat : List Seat → List Seat
by_seat cells = table seat_order (λ s. s) cells

-- the cell of that name, if it is one of them
abbrev pub seat_named : List Seat → List ℕ → Option Seat
seat_named cells name = find (λ s. same_name s.cell name) cells

-- those of them that are named, in the order of the names
abbrev pub as_named : List Seat → List (List ℕ) → List Seat
as_named cells names = filter_map (seat_named cells) names

-- the cells that are emptied, in the order in which they are named, else by tag, zone and name
abbrev pub in_drain : Site → Option (List (List ℕ)) → List Seat
in_drain site None = by_seat (seats site)
in_drain site (Some names) = as_named (seats site) names
