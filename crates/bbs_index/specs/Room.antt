-- Rows with room for more.
use Rattle.std.specs.Prelude.{ℕ, length, max}
use Rattle.bbs_model.specs.declared.rows.Rows.{Rows}

-- the rows of a board, and the length that each of its tables has room for
pub record Roomed : Type 0 where
  pub rows : Rows
  pub room : ℕ

-- the length of the longest table
abbrev pub most_rows : Rows → ℕ
most_rows rows =
    max (max (max (length rows.desired) (length rows.actual)) (max (length rows.tasks) (length rows.cells)))
    (length rows.domains)
