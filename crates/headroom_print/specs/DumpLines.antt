-- The first line, and the notes behind it.
use Rattle.std.specs.Prelude.{ℕ, List, [], ◌∷◌, cond, ◌==◌, codes}
use Rattle.std.specs.List.{flat_map}
use Rattle.serde_json.specs.Data.{string}
use Rattle.dump_reader.specs.declared.dump.LineCounts.{LineCounts}
use Rattle.forecast_records.specs.declared.notes.Notes.{Notes}
use Rattle.line_writing.specs.Spelled.{whole}
use Rattle.headroom_print.specs.Notes.{notes_of}
use Rattle.headroom_print.specs.Values.{line_of}

-- how many lines of each kind the dump has
unfoldable pub dump_line : LineCounts → List ℕ
dump_line c =
    line_of
    ((codes "actual", whole c.actual)
    ∷ (codes "cells", whole c.cells)
    ∷ (codes "desired", whole c.desired)
    ∷ (codes "domains", whole c.domains)
    ∷ (codes "states", whole c.states)
    ∷ (codes "tasks", whole c.tasks)
    ∷ (codes "tell", string (codes "dump"))
    ∷ [])

-- a note of something; one of nothing isn't told
abbrev pub note_line : List ℕ × ℕ → List ℕ
note_line n =
    cond (n.1 == 0) []
    (line_of ((codes "count", whole n.1) ∷ (codes "note", string n.0) ∷ (codes "tell", string (codes "note")) ∷ []))

-- the notes in their order
abbrev pub notes_lines : Notes → List ℕ
notes_lines notes = flat_map note_line (notes_of notes)
