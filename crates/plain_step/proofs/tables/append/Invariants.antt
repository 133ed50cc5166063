use Rattle.std.proofs.Common.{◌≡◌, ◌++◌, take}
use Rattle.plain_step.proofs.tables.append.Given as goal

abbrev pub invariant-loop-row : goal.invariant-loop-row
invariant-loop-row g l = l.all ≡ l.fn.all ++ take l.row-index l.rows
