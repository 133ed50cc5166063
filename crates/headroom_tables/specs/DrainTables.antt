-- What happens where batches of cells are emptied.
use Rattle.std.specs.Prelude.{ℕ, ◌==◌, ◌&&◌, ◌||◌, nat_lt, Bool, cond, List, [], ◌∷◌, ◌++◌, length, codes}
use Rattle.std.specs.List.{flat_map, list_any}
use Rattle.std.specs.Option.{option_eq}
use Rattle.std.specs.Fmt.{decimal}
use Rattle.auctioneer.specs.Stands.{same_name}
use Rattle.forecast_records.specs.declared.drains.Drained.{Drained}
use Rattle.forecast_records.specs.declared.drains.Step.{Step}
use Rattle.forecast_records.specs.declared.unplaced.Unplaced.{Unplaced}
use Rattle.headroom_print.specs.Words.{verdict_word}
use Rattle.headroom_tables.specs.EachTable.{is_bad}
use Rattle.headroom_tables.specs.Entries.{amount, names_text, tag_text}
use Rattle.headroom_tables.specs.Layout.{Column, head, left, right, section}
use Rattle.headroom_tables.specs.NoRoom.{no_room_table}
use Rattle.headroom_tables.specs.ZoneTables.{zone_then_table}

-- how much is done, and on a second line how it ends
unfoldable pub drain_counts : Drained → List (List ℕ)
drain_counts d =
    codes "drain: cells "
    ∷ decimal d.cells
    ∷ codes ", at a time "
    ∷ decimal d.at_a_time
    ∷ codes ", steps "
    ∷ decimal (length d.steps)
    ∷ codes ", without room "
    ∷ decimal d.bad_steps
    ∷ codes ", moves "
    ∷ decimal d.moves
    ∷ codes ", of one instance "
    ∷ decimal d.most_moves
    ∷ codes " at most"
    ∷ (10 ∷ codes "at the end: empty cells ")
    ∷ decimal d.empty
    ∷ codes ", uneven processes "
    ∷ decimal d.uneven
    ∷ codes " (before "
    ∷ decimal d.uneven_before
    ∷ codes ")"
    ∷ []

-- the columns of steps
unfoldable pub step_columns : List Column
step_columns =
    right (codes "STEP")
    ∷ left (codes "ZONE")
    ∷ left (codes "TAG")
    ∷ right (codes "NEED ROOM")
    ∷ right (codes "NO ROOM")
    ∷ left (codes "VERDICT")
    ∷ left (codes "CELLS")
    ∷ []

-- a batch that is emptied
unfoldable pub step_row : Step → List (List ℕ)
step_row s =
    decimal s.step
    ∷ s.zone
    ∷ tag_text s.tag
    ∷ decimal s.displaced
    ∷ decimal s.unplaced
    ∷ verdict_word s.verdict
    ∷ names_text s.cells
    ∷ []

-- a step that finds room is left out
abbrev pub step_rows : Step → List (List (List ℕ))
step_rows s = cond (is_bad s.verdict) (step_row s ∷ []) []

-- the steps without room
abbrev pub step_table : List Step → List ℕ
step_table steps = section step_columns (flat_map step_rows steps)

-- whether the second step leaves their tag less memory than the first, or as much and comes before it
abbrev pub is_tighter : Step → Step → Bool
is_tighter s t =
    option_eq same_name s.tag t.tag
    && (nat_lt t.free_left.memory s.free_left.memory
    || ((t.free_left.memory == s.free_left.memory) && nat_lt t.step s.step))

-- the columns of the tightest steps
unfoldable pub tightest_columns : List Column
tightest_columns =
    right (codes "TIGHTEST STEP")
    ∷ left (codes "TAG")
    ∷ right (codes "MEMORY LEFT")
    ∷ right (codes "DISK LEFT")
    ∷ left (codes "CELLS")
    ∷ []

-- a step, and what it leaves its tag
unfoldable pub tightest_row : Step → List (List ℕ)
tightest_row s =
    decimal s.step
    ∷ tag_text s.tag
    ∷ amount s.free_left.memory
    ∷ amount s.free_left.disk
    ∷ names_text s.cells
    ∷ []

-- a step's row, if none is tighter
abbrev pub tightest_rows : List Step → Step → List (List (List ℕ))
tightest_rows steps s = cond (list_any (is_tighter s) steps) [] (tightest_row s ∷ [])

-- of each tag the step that leaves it the least memory
abbrev pub tightest_table : List Step → List ℕ
tightest_table steps = section tightest_columns (flat_map (tightest_rows steps) steps)

-- the jobs without room of all steps
abbrev pub all_without_room : List Step → List Unplaced
all_without_room steps = flat_map (λ s. s.without_room) steps

-- the answer
abbrev pub drain_text : Drained → List ℕ
drain_text d =
    head (drain_counts d) d.verdict
    ++ (step_table d.steps
    ++ (tightest_table d.steps
    ++ (no_room_table (all_without_room d.steps)
    ++ zone_then_table d.zones)))
