-- What stands and waits now.
use Rattle.std.specs.Prelude.{ℕ, List, [], ◌∷◌, ◌++◌, length, map, codes}
use Rattle.std.specs.Fmt.{decimal}
use Rattle.forecast_records.specs.declared.spread.InOneZone.{InOneZone}
use Rattle.forecast_records.specs.declared.spread.OnOneCell.{OnOneCell}
use Rattle.forecast_records.specs.declared.spread.Uneven.{Uneven}
use Rattle.forecast_records.specs.declared.stock.Shown.{Shown}
use Rattle.headroom_tables.specs.Entries.{zones_text}
use Rattle.headroom_tables.specs.Layout.{Column, head, left, right, section}
use Rattle.headroom_tables.specs.NoRoom.{no_room_table}
use Rattle.headroom_tables.specs.TagTable.{tag_table}
use Rattle.headroom_tables.specs.ZoneTables.{zone_now_table}

-- how much there is, and on a second line how many processes stand badly
unfoldable pub show_counts : Shown → List (List ℕ)
show_counts s =
    codes "show: cells "
    ∷ decimal s.cells
    ∷ codes " (emptied "
    ∷ decimal s.evacuating
    ∷ codes ", silent "
    ∷ decimal s.silent
    ∷ codes "), instances "
    ∷ decimal s.instances
    ∷ codes " of "
    ∷ decimal s.processes
    ∷ codes " processes, tasks "
    ∷ decimal s.tasks
    ∷ codes ", waiting "
    ∷ decimal s.waiting
    ∷ codes ", crashed "
    ∷ decimal s.crashed
    ∷ (10 ∷ codes "uneven processes ")
    ∷ decimal (length s.uneven)
    ∷ codes ", in one zone "
    ∷ decimal (length s.one_zone)
    ∷ codes ", on one cell "
    ∷ decimal (length s.one_cell)
    ∷ []

-- the columns of processes that stand together
unfoldable pub together_columns : List Column
together_columns =
    left (codes "ONE CELL OR ZONE") ∷ right (codes "INSTANCES") ∷ left (codes "ON") ∷ []

-- a process, its instances, and what they all stand on
unfoldable pub together_row : List ℕ → ℕ → List ℕ → List (List ℕ)
together_row process instances on = process ∷ decimal instances ∷ on ∷ []

-- a process on one cell
abbrev pub one_cell_row : OnOneCell → List (List ℕ)
one_cell_row p = together_row p.process p.instances p.cell

-- a process in one zone
abbrev pub one_zone_row : InOneZone → List (List ℕ)
one_zone_row p = together_row p.process p.instances p.zone

-- processes of several instances that stand together: first those on one cell, then those in one zone
abbrev pub together_table : List OnOneCell → List InOneZone → List ℕ
together_table cells zones =
    section together_columns (map one_cell_row cells ++ map one_zone_row zones)

-- the columns of processes whose zones differ
unfoldable pub uneven_columns : List Column
uneven_columns = left (codes "UNEVEN") ∷ right (codes "BY") ∷ left (codes "ZONES") ∷ []

-- a process: the most less the least that a zone has, and each zone
unfoldable pub uneven_row : Uneven → List (List ℕ)
uneven_row u = u.process ∷ decimal u.spread ∷ zones_text u.zones ∷ []

-- processes whose zones differ
abbrev pub uneven_table : List Uneven → List ℕ
uneven_table processes = section uneven_columns (map uneven_row processes)

-- how processes stand
unfoldable pub standing_tables : Shown → List ℕ
standing_tables s = together_table s.one_cell s.one_zone ++ uneven_table s.uneven

-- the answer
abbrev pub show_text : Shown → List ℕ
show_text s =
    head (show_counts s) s.verdict
    ++ (tag_table s.tags
    ++ (no_room_table s.unplaced
    ++ (standing_tables s
    ++ zone_now_table s.zones)))
