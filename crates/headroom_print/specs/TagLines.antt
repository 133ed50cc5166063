-- The lines of tags.
use Rattle.std.specs.Prelude.{ℕ, List, [], ◌∷◌, codes}
use Rattle.serde_json.specs.Data.{string}
use Rattle.forecast_records.specs.declared.stock.TagRoom.{TagRoom}
use Rattle.line_writing.specs.Spelled.{optional_name_data, whole}
use Rattle.headroom_print.specs.Values.{line_of, sums_data}
use Rattle.headroom_print.specs.Words.{verdict_word}

-- the jobs of a tag, and its cells
unfoldable pub tag_line : ℕ → TagRoom → List ℕ
tag_line line t =
    line_of
    ((codes "asked", sums_data t.asked)
    ∷ (codes "cells_left", whole t.cells_left)
    ∷ (codes "free", sums_data t.free)
    ∷ (codes "jobs", whole t.jobs)
    ∷ (codes "line", whole line)
    ∷ (codes "tag", optional_name_data t.tag)
    ∷ (codes "tell", string (codes "tag"))
    ∷ (codes "unplaced", whole t.unplaced)
    ∷ (codes "unplaced_memory", whole t.unplaced_memory)
    ∷ (codes "verdict", string (verdict_word t.verdict))
    ∷ [])
