-- The lines of processes that stand unevenly, on one cell or in one zone.
use Rattle.std.specs.Prelude.{ℕ, List, [], ◌∷◌, codes}
use Rattle.serde_json.specs.Data.{string}
use Rattle.forecast_records.specs.declared.spread.InOneZone.{InOneZone}
use Rattle.forecast_records.specs.declared.spread.OnOneCell.{OnOneCell}
use Rattle.forecast_records.specs.declared.spread.Uneven.{Uneven}
use Rattle.line_writing.specs.Spelled.{whole}
use Rattle.headroom_print.specs.Values.{line_of, zones_data}

-- a process whose zones differ
unfoldable pub uneven_line : ℕ → Uneven → List ℕ
uneven_line line u =
    line_of
    ((codes "line", whole line)
    ∷ (codes "process", string u.process)
    ∷ (codes "spread", whole u.spread)
    ∷ (codes "tell", string (codes "uneven"))
    ∷ (codes "zones", zones_data u.zones)
    ∷ [])

-- a process that stands on one cell
unfoldable pub one_cell_line : ℕ → OnOneCell → List ℕ
one_cell_line line p =
    line_of
    ((codes "cell", string p.cell)
    ∷ (codes "instances", whole p.instances)
    ∷ (codes "line", whole line)
    ∷ (codes "process", string p.process)
    ∷ (codes "tell", string (codes "one_cell"))
    ∷ (codes "zone", string p.zone)
    ∷ [])

-- a process that stands in one zone
unfoldable pub one_zone_line : ℕ → InOneZone → List ℕ
one_zone_line line p =
    line_of
    ((codes "instances", whole p.instances)
    ∷ (codes "line", whole line)
    ∷ (codes "process", string p.process)
    ∷ (codes "tell", string (codes "one_zone"))
    ∷ (codes "zone", string p.zone)
    ∷ [])
