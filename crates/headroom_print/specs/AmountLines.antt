-- The lines of what zones have.
use Rattle.std.specs.Prelude.{ℕ, List, [], ◌∷◌, codes}
use Rattle.serde_json.specs.Data.{string}
use Rattle.forecast_records.specs.declared.stock.ZoneNow.{ZoneNow}
use Rattle.forecast_records.specs.declared.stock.ZoneThen.{ZoneThen}
use Rattle.line_writing.specs.Spelled.{optional_name_data, whole}
use Rattle.headroom_print.specs.Values.{free_data, line_of, sums_data}

-- what the cells of a zone and tag have now
unfoldable pub zone_now_line : ℕ → ZoneNow → List ℕ
zone_now_line line z =
    line_of
    ((codes "cells", whole z.of.cells)
    ∷ (codes "free", sums_data z.of.free)
    ∷ (codes "instances", whole z.instances)
    ∷ (codes "line", whole line)
    ∷ (codes "most_free", free_data z.most_free)
    ∷ (codes "tag", optional_name_data z.of.tag)
    ∷ (codes "tell", string (codes "amounts"))
    ∷ (codes "total", sums_data z.of.total)
    ∷ (codes "zone", string z.of.zone)
    ∷ [])

-- what they have, and what is left once all is placed
unfoldable pub zone_then_line : ℕ → ZoneThen → List ℕ
zone_then_line line z =
    line_of
    ((codes "cells", whole z.of.cells)
    ∷ (codes "cells_left", whole z.cells_left)
    ∷ (codes "free", sums_data z.of.free)
    ∷ (codes "free_left", sums_data z.free_left)
    ∷ (codes "line", whole line)
    ∷ (codes "tag", optional_name_data z.of.tag)
    ∷ (codes "tell", string (codes "amounts"))
    ∷ (codes "total", sums_data z.of.total)
    ∷ (codes "zone", string z.of.zone)
    ∷ [])
