use Rattle.std.proofs.Common.{◌≡◌, filter, take}
use Rattle.what_if.specs.Stays.{is_open}
use Rattle.what_if.proofs.cells.open_cells.Given as goal

abbrev pub invariant-loop-answer : goal.invariant-loop-answer
invariant-loop-answer l = l.cells.items ≡ filter (is_open l.lost) (take l.answer-index l.answer-items)
