-- What the cells of each zone and tag have.
use Rattle.std.specs.Prelude.{ℕ, List, [], ◌∷◌, map, codes}
use Rattle.std.specs.Fmt.{decimal}
use Rattle.forecast_records.specs.declared.stock.ZoneNow.{ZoneNow}
use Rattle.forecast_records.specs.declared.stock.ZoneThen.{ZoneThen}
use Rattle.headroom_tables.specs.Entries.{amount, tag_text}
use Rattle.headroom_tables.specs.Layout.{Column, left, right, section}

-- the columns of what there is now
unfoldable pub zone_now_columns : List Column
zone_now_columns =
    left (codes "ZONE")
    ∷ left (codes "TAG")
    ∷ right (codes "CELLS")
    ∷ right (codes "MEMORY")
    ∷ right (codes "FREE")
    ∷ right (codes "ON ONE CELL")
    ∷ right (codes "DISK FREE")
    ∷ right (codes "CONTAINERS")
    ∷ right (codes "INSTANCES")
    ∷ []

-- the cells of a zone and a tag now
unfoldable pub zone_now_row : ZoneNow → List (List ℕ)
zone_now_row z =
    z.of.zone
    ∷ tag_text z.of.tag
    ∷ decimal z.of.cells
    ∷ amount z.of.total.memory
    ∷ amount z.of.free.memory
    ∷ amount z.most_free.memory
    ∷ amount z.of.free.disk
    ∷ decimal z.of.free.containers
    ∷ decimal z.instances
    ∷ []

-- what there is now
abbrev pub zone_now_table : List ZoneNow → List ℕ
zone_now_table zones = section zone_now_columns (map zone_now_row zones)

-- the columns of what is left
unfoldable pub zone_then_columns : List Column
zone_then_columns =
    left (codes "ZONE")
    ∷ left (codes "TAG")
    ∷ right (codes "CELLS")
    ∷ right (codes "LEFT")
    ∷ right (codes "MEMORY")
    ∷ right (codes "FREE")
    ∷ right (codes "THEN")
    ∷ right (codes "DISK FREE")
    ∷ right (codes "THEN")
    ∷ right (codes "CONTAINERS")
    ∷ right (codes "THEN")
    ∷ []

-- the cells of a zone and a tag now, and once all that waits is placed
unfoldable pub zone_then_row : ZoneThen → List (List ℕ)
zone_then_row z =
    z.of.zone
    ∷ tag_text z.of.tag
    ∷ decimal z.of.cells
    ∷ decimal z.cells_left
    ∷ amount z.of.total.memory
    ∷ amount z.of.free.memory
    ∷ amount z.free_left.memory
    ∷ amount z.of.free.disk
    ∷ amount z.free_left.disk
    ∷ decimal z.of.free.containers
    ∷ decimal z.free_left.containers
    ∷ []

-- what there is now, and once all that waits is placed
abbrev pub zone_then_table : List ZoneThen → List ℕ
zone_then_table zones = section zone_then_columns (map zone_then_row zones)
