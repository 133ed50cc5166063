-- The answer to more instances of a process, and its cells.
use Rattle.std.specs.Prelude.{ℕ, List, [], ◌∷◌, ◌++◌, length, codes}
use Rattle.std.specs.List.{flat_map}
use Rattle.serde_json.specs.Data.{string}
use Rattle.forecast_records.specs.declared.fits.Filled.{Filled}
use Rattle.forecast_records.specs.declared.fits.Fitted.{Fitted}
use Rattle.line_writing.specs.Spelled.{whole}
use Rattle.headroom_print.specs.UnplacedLines.{first_line}
use Rattle.headroom_print.specs.Values.{free_data, line_of, zones_data}
use Rattle.headroom_print.specs.Words.{verdict_word}

-- where more instances of a process would go
unfoldable pub fitted_line : ℕ → Fitted → List ℕ
fitted_line line f =
    line_of
    ((codes "answer", string (codes "fit"))
    ∷ (codes "cells", whole (length f.filled))
    ∷ (codes "instances", whole f.instances)
    ∷ (codes "line", whole line)
    ∷ (codes "placed", whole f.placed)
    ∷ (codes "room_for", whole f.room_for)
    ∷ (codes "tell", string (codes "answer"))
    ∷ (codes "unplaced", whole f.unplaced)
    ∷ (codes "verdict", string (verdict_word f.verdict))
    ∷ (codes "zones", zones_data f.zones)
    ∷ [])

-- a cell that takes some of them
unfoldable pub filled_line : ℕ → Filled → List ℕ
filled_line line c =
    line_of
    ((codes "cell", string c.cell)
    ∷ (codes "free", free_data c.free)
    ∷ (codes "free_left", free_data c.free_left)
    ∷ (codes "instances", whole c.instances)
    ∷ (codes "line", whole line)
    ∷ (codes "tell", string (codes "cell"))
    ∷ (codes "zone", string c.zone)
    ∷ [])

-- the answer to more instances of a process, and what is under it
abbrev pub fit_lines : ℕ → Fitted → List ℕ
fit_lines line f =
    fitted_line line f
    ++ (first_line line f.first
    ++ (flat_map (filled_line line) f.filled))
