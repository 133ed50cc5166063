-- Lines of text and tables, one under the other.
use Rattle.std.specs.Prelude.{ℕ, ◌==◌, cond, List, [], ◌∷◌, ◌++◌, length, map, codes}
use Rattle.std.specs.List.{flat_map}
use Rattle.forecast_records.specs.declared.verdict.Verdict.{Verdict}
use Rattle.forecast_records.specs.declared.verdict.Verdict.TheVariants.{Room, Unplaced, Short}
use Rattle.text_table.specs.declared.table.Side.{Side}
use Rattle.text_table.specs.declared.table.Side.TheVariants.{Left, Right}
use Rattle.text_table.specs.Layout.{table_text}

-- parts in a row, with something between each two
unfoldable pub joined : List ℕ → List (List ℕ) → List ℕ
joined between [] = []
joined between (part ∷ parts) = part ++ flat_map (λ p. between ++ p) parts

-- a line: its parts with nothing between them, and a newline
abbrev pub text_line : List (List ℕ) → List ℕ
text_line parts = joined [] parts ++ 10 ∷ []

-- a verdict as a sentence
abbrev pub sentence : Verdict → List ℕ
sentence Room = codes "ROOM: all find room"
sentence Unplaced =
    codes "UNPLACED: in this order some find no room; the amounts alone don't rule it out"
sentence Short = codes "SHORT: not all can find room, whatever the scheduler"

-- what an answer begins with, under an empty line: its counts, and its verdict
unfoldable pub head : List (List ℕ) → Verdict → List ℕ
head counts verdict = 10 ∷ (text_line counts ++ text_line (sentence verdict ∷ []))

-- a column of a table: the side of its entries, and its header
abbrev pub Column : Type 0
Column = Side × List ℕ

-- a column of words
abbrev pub left : List ℕ → Column
left header = (Left, header)

-- a column of numbers
abbrev pub right : List ℕ → Column
right header = (Right, header)

-- a table under an empty line: the headers, then the rows; nothing where there is no row
unfoldable pub section : List Column → List (List (List ℕ)) → List ℕ
section columns rows =
    cond (length rows == 0) []
    (10 ∷ table_text (map (λ c. c.0) columns) (map (λ c. c.1) columns ∷ rows))
