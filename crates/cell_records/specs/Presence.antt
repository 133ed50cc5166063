-- When a cell is there.
use Rattle.std.specs.Prelude.{Bool, nat_lt}
use Rattle.crash_backoff.specs.declared.moment.Moment.{Moment}
use Rattle.cell_records.specs.declared.cell_row.CellRow.{CellRow}

-- whether the cell's lease holds at that moment, which it does up to the second before it ends
abbrev pub is_present : CellRow → Moment → Bool
is_present row now = nat_lt now.0 row.until
