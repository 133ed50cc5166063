-- The jobs of each tag, and its cells.
use Rattle.std.specs.Prelude.{ℕ, List, [], ◌∷◌, map, codes}
use Rattle.std.specs.Fmt.{decimal}
use Rattle.forecast_records.specs.declared.stock.TagRoom.{TagRoom}
use Rattle.headroom_print.specs.Words.{verdict_word}
use Rattle.headroom_tables.specs.Entries.{amount, tag_text}
use Rattle.headroom_tables.specs.Layout.{Column, left, right, section}

-- the columns of tags
unfoldable pub tag_columns : List Column
tag_columns =
    left (codes "TAG")
    ∷ right (codes "CELLS LEFT")
    ∷ right (codes "JOBS")
    ∷ right (codes "NO ROOM")
    ∷ right (codes "MEMORY ASKED")
    ∷ right (codes "FREE")
    ∷ right (codes "DISK ASKED")
    ∷ right (codes "FREE")
    ∷ left (codes "VERDICT")
    ∷ []

-- a tag: its cells, its jobs, what these ask for, and what is free
unfoldable pub tag_row : TagRoom → List (List ℕ)
tag_row t =
    tag_text t.tag
    ∷ decimal t.cells_left
    ∷ decimal t.jobs
    ∷ decimal t.unplaced
    ∷ amount t.asked.memory
    ∷ amount t.free.memory
    ∷ amount t.asked.disk
    ∷ amount t.free.disk
    ∷ verdict_word t.verdict
    ∷ []

-- the tags in their order
abbrev pub tag_table : List TagRoom → List ℕ
tag_table tags = section tag_columns (map tag_row tags)
