-- What a loss does.
use Rattle.std.specs.Prelude.{ℕ, List, [], ◌∷◌, ◌++◌, length, map, codes}
use Rattle.std.specs.Fmt.{decimal}
use Rattle.forecast_records.specs.declared.losses.Lost.{Lost}
use Rattle.headroom_tables.specs.Layout.{Column, head, left, section}
use Rattle.headroom_tables.specs.NoRoom.{no_room_table}
use Rattle.headroom_tables.specs.TagTable.{tag_table}
use Rattle.headroom_tables.specs.ZoneTables.{zone_then_table}

-- how much is lost
unfoldable pub lose_counts : Lost → List (List ℕ)
lose_counts l =
    codes "lose: cells "
    ∷ decimal l.cells
    ∷ codes ", need room "
    ∷ decimal l.displaced
    ∷ codes ", tasks that fail "
    ∷ decimal l.tasks
    ∷ codes ", waited before "
    ∷ decimal l.waiting
    ∷ codes ", dark "
    ∷ decimal l.dark
    ∷ codes " (of several instances "
    ∷ decimal (length l.dark_of_many)
    ∷ codes ")"
    ∷ []

-- the column of dark processes
unfoldable pub dark_columns : List Column
dark_columns = left (codes "DARK") ∷ []

-- processes of several instances of which none is held
abbrev pub dark_table : List (List ℕ) → List ℕ
dark_table processes = section dark_columns (map (λ p. p ∷ []) processes)

-- the answer
abbrev pub lose_text : Lost → List ℕ
lose_text l =
    head (lose_counts l) l.verdict
    ++ (tag_table l.tags
    ++ (no_room_table l.without_room
    ++ (dark_table l.dark_of_many
    ++ zone_then_table l.zones)))
