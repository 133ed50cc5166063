-- Where more instances of a process would go.
use Rattle.std.specs.Prelude.{ℕ, List, [], ◌∷◌, ◌++◌, length, map, option_to_list, codes}
use Rattle.std.specs.Fmt.{decimal}
use Rattle.forecast_records.specs.declared.fits.Filled.{Filled}
use Rattle.forecast_records.specs.declared.fits.Fitted.{Fitted}
use Rattle.headroom_tables.specs.Entries.{amount, zones_in_brackets}
use Rattle.headroom_tables.specs.Layout.{Column, head, left, right, section}
use Rattle.headroom_tables.specs.NoRoom.{no_room_table}

-- how many go, and where
unfoldable pub fit_counts : Fitted → List (List ℕ)
fit_counts f =
    codes "fit: asked "
    ∷ decimal f.instances
    ∷ codes ", placed "
    ∷ decimal f.placed
    ∷ codes ", on cells "
    ∷ decimal (length f.filled)
    ∷ zones_in_brackets f.zones
    ∷ codes ", room for "
    ∷ decimal f.room_for
    ∷ codes " of this size"
    ∷ []

-- the columns of cells
unfoldable pub filled_columns : List Column
filled_columns =
    left (codes "CELL")
    ∷ left (codes "ZONE")
    ∷ right (codes "INSTANCES")
    ∷ right (codes "MEMORY FREE")
    ∷ right (codes "THEN")
    ∷ right (codes "DISK FREE")
    ∷ right (codes "THEN")
    ∷ []

-- a cell, and what it has now and then
unfoldable pub filled_row : Filled → List (List ℕ)
filled_row c =
    c.cell
    ∷ c.zone
    ∷ decimal c.instances
    ∷ amount c.free.memory
    ∷ amount c.free_left.memory
    ∷ amount c.free.disk
    ∷ amount c.free_left.disk
    ∷ []

-- the cells that take some
abbrev pub filled_table : List Filled → List ℕ
filled_table cells = section filled_columns (map filled_row cells)

-- the answer
abbrev pub fit_text : Fitted → List ℕ
fit_text f =
    head (fit_counts f) f.verdict
    ++ (no_room_table (option_to_list f.first) ++ filled_table f.filled)
