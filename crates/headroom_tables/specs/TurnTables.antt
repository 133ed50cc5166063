-- How many cells can go in turn.
use Rattle.std.specs.Prelude.{ℕ, ◌==◌, cond, List, [], ◌∷◌, ◌++◌, map, option_to_list, codes}
use Rattle.std.specs.List.{flat_map}
use Rattle.std.specs.Fmt.{decimal}
use Rattle.forecast_records.specs.declared.cases.Turn.{Turn}
use Rattle.forecast_records.specs.declared.cases.TurnsTaken.{TurnsTaken}
use Rattle.forecast_records.specs.declared.unplaced.Unplaced.{Unplaced}
use Rattle.headroom_print.specs.Words.{order_word, verdict_word}
use Rattle.headroom_tables.specs.Entries.{last_name, tag_text}
use Rattle.headroom_tables.specs.Layout.{Column, head, left, right, section}
use Rattle.headroom_tables.specs.NoRoom.{no_room_table}

-- the least that a tag survives, and how much is asked
unfoldable pub turns_counts : TurnsTaken → List (List ℕ)
turns_counts t =
    codes "lose in turn, "
    ∷ order_word t.order
    ∷ codes ": of each tag can go "
    ∷ decimal t.survived
    ∷ codes ", asked "
    ∷ decimal t.at_least
    ∷ []

-- the cell whose loss is too much: the last one, where a job has no room behind it
abbrev pub excess : Turn → List ℕ
excess t = cond (t.unplaced == 0) [] (last_name t.lost)

-- the columns of what can go
unfoldable pub turn_columns : List Column
turn_columns =
    left (codes "TAG")
    ∷ right (codes "CELLS")
    ∷ right (codes "CAN GO")
    ∷ right (codes "THEN NO ROOM FOR")
    ∷ left (codes "VERDICT")
    ∷ left (codes "WITH")
    ∷ []

-- a tag: its cells, how many of them can go, and what the next one does
unfoldable pub turn_row : Turn → List (List ℕ)
turn_row t =
    tag_text t.tag
    ∷ decimal t.cells
    ∷ decimal t.survived
    ∷ decimal t.unplaced
    ∷ verdict_word t.verdict
    ∷ excess t
    ∷ []

-- the tags in their order
abbrev pub turn_table : List Turn → List ℕ
turn_table turns = section turn_columns (map turn_row turns)

-- the first job without room of each tag
abbrev pub firsts_of : List Turn → List Unplaced
firsts_of turns = flat_map (λ t. option_to_list t.first) turns

-- the answer
abbrev pub turns_text : TurnsTaken → List ℕ
turns_text t =
    head (turns_counts t) t.verdict
    ++ (turn_table t.turns ++ no_room_table (firsts_of t.turns))
