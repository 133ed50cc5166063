use Rattle.std.proofs.Common.{◌≡◌, ◌++◌, take}
use Rattle.program_tools.specs.Records.{table_lines}
use Rattle.program_tools.proofs.records.add_table.Given as goal

abbrev pub invariant-loop-row : goal.invariant-loop-row
invariant-loop-row g l = l.text.items ≡ l.fn.text.items ++ table_lines g.X.OfTable.with_table (take l.row-index l.rows)
