-- The lines of jobs without room.
use Rattle.std.specs.Prelude.{ℕ, List, [], ◌∷◌, Option, None, Some, codes}
use Rattle.serde_json.specs.Data.{boolean, string}
use Rattle.forecast_records.specs.declared.unplaced.Unplaced.{Unplaced}
use Rattle.line_writing.specs.Spelled.{optional_name_data, whole}
use Rattle.headroom_print.specs.Values.{free_data, lacks_data, line_of}
use Rattle.headroom_print.specs.Words.{job_text}

-- a job without room, and why
unfoldable pub unplaced_line : ℕ → Unplaced → List ℕ
unplaced_line line u =
    line_of
    ((codes "as_large", whole u.as_large)
    ∷ (codes "cells", whole u.reasons.cells)
    ∷ (codes "disk", whole u.disk)
    ∷ (codes "job", string (job_text u.job))
    ∷ (codes "lacks", lacks_data u.reasons)
    ∷ (codes "line", whole line)
    ∷ (codes "memory", whole u.memory)
    ∷ (codes "most_free", free_data u.most_free)
    ∷ (codes "other_tag", whole u.reasons.other_tag)
    ∷ (codes "room_for", whole u.room_for)
    ∷ (codes "tag", optional_name_data u.tag)
    ∷ (codes "tell", string (codes "unplaced"))
    ∷ (codes "waited", boolean u.waited)
    ∷ [])

-- the first job without room, if there is one
abbrev pub first_line : ℕ → Option Unplaced → List ℕ
first_line line None = []
first_line line (Some u) = unplaced_line line u
