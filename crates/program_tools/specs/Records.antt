-- What is printed of a board: each row, or where it is kept.
use Rattle.std.specs.Prelude.{◌≡◌, ℕ, List, ◌++◌, length}
use Rattle.std.specs.List.{flat_map}
use Rattle.disk_trait.specs.Past.{Image}
use Rattle.bbs_model.specs.declared.event.Row.{Row}
use Rattle.bbs_model.specs.declared.event.Row.TheVariants.{Desired, Actual, Task, Cell, Domain}
use Rattle.bbs_model.specs.declared.rows.Rows.{Rows}
use Rattle.bbs_board.specs.Opening.{IsBoard}
use Rattle.bbs_board.specs.declared.kept_in.KeptIn.{KeptIn}
use Rattle.record_print.specs.Printed.{line_text, record_data, check_data}
use Rattle.record_print.specs.declared.check.Check.{Check}

-- the line of a row, with its table
abbrev pub record_line : Row → List ℕ
record_line row = line_text (record_data row)

-- the lines of the rows of a table, in their order
abbrev pub table_lines : {X : Type 0} → (X → Row) → List X → List ℕ
table_lines as_row rows = flat_map (λ x. record_line (as_row x)) rows

-- the lines of all rows of a board, table by table
abbrev pub records_text : Rows → List ℕ
records_text rows =
    table_lines Desired rows.desired
    ++ (table_lines Actual rows.actual
    ++ (table_lines Task rows.tasks ++ (table_lines Cell rows.cells ++ table_lines Domain rows.domains)))

-- the image is opened as a board in this area, of this generation, with so many frames behind its head, and the board
-- has made so many transitions
pub record IsCheckOf (check : Check) (image : Image) : Type 0 where
  pub rows : Rows
  pub board : IsBoard rows image
  pub area_is : check.area ≡ board.area
  pub generation_is : check.generation ≡ board.generation
  pub frames_are : check.frames ≡ length board.payloads
  pub next_is : check.next ≡ rows.next

-- where a check tells that the board is kept
abbrev pub check_place : Check → KeptIn
check_place check = record { area = check.area; generation = check.generation; frames = check.frames }

-- the line of a check
abbrev pub check_line : Check → List ℕ
check_line check = line_text (check_data check)
