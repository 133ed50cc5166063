-- The first line, and the notes behind it.
use Rattle.std.specs.Prelude.{ℕ, ◌==◌, cond, List, [], ◌∷◌, codes}
use Rattle.std.specs.List.{flat_map}
use Rattle.std.specs.Fmt.{decimal}
use Rattle.dump_reader.specs.declared.dump.LineCounts.{LineCounts}
use Rattle.forecast_records.specs.declared.notes.Notes.{Notes}
use Rattle.headroom_print.specs.Notes.{notes_of}
use Rattle.headroom_tables.specs.Layout.{text_line}

-- how many lines of each kind the dump has; those of domains aren't told
unfoldable pub dump_parts : LineCounts → List (List ℕ)
dump_parts c =
    codes "dump: cell states "
    ∷ decimal c.states
    ∷ codes ", cells "
    ∷ decimal c.cells
    ∷ codes ", desired "
    ∷ decimal c.desired
    ∷ codes ", actual "
    ∷ decimal c.actual
    ∷ codes ", tasks "
    ∷ decimal c.tasks
    ∷ []

-- a note; one of nothing isn't told
abbrev pub note_text : List ℕ × ℕ → List ℕ
note_text n = cond (n.1 == 0) [] (text_line (codes "note: " ∷ n.0 ∷ codes " " ∷ decimal n.1 ∷ []))

-- the notes in their order
abbrev pub notes_text : Notes → List ℕ
notes_text notes = flat_map note_text (notes_of notes)
