-- How many more calls there is memory for.
use Rattle.std.specs.Prelude.{ℕ, ◌+◌, ◌-◌, ◌*◌, ◌/◌, ◌^◌, min, length, vec_capacity}
use Rattle.bbs_index.specs.Index.{least_room}
use Rattle.bbs_model.specs.Limits.{most_processes, most_actual, most_tasks, most_cells, most_domains}
use Rattle.bbs_model.specs.declared.rows.Rows.{Rows}
use Rattle.bbs_board.specs.declared.draft.Draft.{Draft}
use Rattle.bbs_board.specs.declared.orders.Orders.{Orders}

-- how many rows a board has
abbrev pub row_count : Rows → ℕ
row_count rows = length rows.desired + length rows.actual + length rows.tasks + length rows.cells + length rows.domains

-- the most rows that a board can have
abbrev pub most_rows : ℕ
most_rows = most_processes + most_actual + most_tasks + most_cells + most_domains

-- how many rows every table may have, so that its order has room
abbrev pub numbers_in : Orders → ℕ
numbers_in o = least_room o.desired.room o.actual.room o.tasks.room o.cells.room o.domains.room

-- how many places there are for a head, which takes one for its front and one for each row: a place is 344 bytes, and
-- each row has a number besides, in whichever table it is
abbrev pub places_in : Draft → ℕ
places_in draft = min (vec_capacity draft.bytes / 344) (numbers_in draft.orders + 1)

-- how many of these the head of the rows leaves; a place behind those of the largest head that a board can have is more
-- than any number of calls wants, and counts as 2 ^ 32
abbrev pub places_left : ℕ → Rows → ℕ
places_left places rows = (places - (row_count rows + 1)) + 2 ^ 32 * (places - most_rows)

-- how many calls there is memory for: each puts two rows at most, adds one item at most, and may write a head
abbrev pub calls_for : ℕ → ℕ → ℕ → ℕ
calls_for rows items places = min (min (rows / 2) items) (places / 2)
