-- Rows of texts as columns: each as wide as its widest entry, two spaces between, no space at the end of a line.
use Rattle.std.specs.Prelude.{ℕ, zero, suc, ◌+◌, ◌-◌, ◌==◌, max, cond, List, [], ◌∷◌, ◌++◌, length, replicate, reverse, slice_index_or}
use Rattle.std.specs.List.{flat_map}
use Rattle.text_table.specs.declared.columns.Column.{Column}
use Rattle.text_table.specs.declared.table.Side.{Side}
use Rattle.text_table.specs.declared.table.Side.TheVariants.{Left, Right}

-- the entry of a row in a column, the empty one where the row ends before it
abbrev pub entry_of : List (List ℕ) → ℕ → List ℕ
entry_of row at = slice_index_or row at []

-- the length of a column's longest entry
abbrev pub width_of : List (List (List ℕ)) → ℕ → ℕ
width_of [] at = 0
width_of (row ∷ rows) at = max (length (entry_of row at)) (width_of rows at)

-- the columns from one on: the side of each, and its width
abbrev pub columns_from : ℕ → List Side → List (List (List ℕ)) → List Column
columns_from at [] rows = []
columns_from at (side ∷ sides) rows =
    record { side = side; width = width_of rows at } ∷ columns_from (at + 1) sides rows

-- so many spaces
abbrev pub spaces : ℕ → List ℕ
spaces count = replicate count 32

-- an entry filled up with spaces: those on the left stand behind it, those on the right before it
abbrev pub padded : Side → ℕ → List ℕ → List ℕ
padded Left width entry = entry ++ spaces (width - length entry)
padded Right width entry = spaces (width - length entry) ++ entry

-- what stands between a column and the one before it
abbrev pub gap : ℕ → List ℕ
gap zero = []
gap (suc at) = spaces 2

-- a row's entries from a column on, each in its column
abbrev pub filled_from : ℕ → List Column → List (List ℕ) → List ℕ
filled_from at [] row = []
filled_from at (column ∷ columns) row =
    gap at ++ (padded column.side column.width (entry_of row at) ++ filled_from (at + 1) columns row)

-- a text without the spaces that it begins with
abbrev pub without_leading : List ℕ → List ℕ
without_leading [] = []
without_leading (byte ∷ text) = cond (byte == 32) (without_leading text) (byte ∷ text)

-- a text without the spaces at its end
abbrev pub trimmed : List ℕ → List ℕ
trimmed text = reverse (without_leading (reverse text))

-- the line of a row
abbrev pub row_line : List Column → List (List ℕ) → List ℕ
row_line columns row = trimmed (filled_from 0 columns row) ++ 10 ∷ []

-- the text of a table: the line of each row, the header's first
abbrev pub table_text : List Side → List (List (List ℕ)) → List ℕ
table_text sides rows = flat_map (row_line (columns_from 0 sides rows)) rows
