use Rattle.std.proofs.Common.{◌≡◌, filter, map, take}
use Rattle.what_if.specs.Kept.{kept_cell}
use Rattle.what_if.specs.Stays.{is_open}
use Rattle.what_if.proofs.kept_cells.kept_cells.Given as goal

abbrev pub invariant-loop-answer : goal.invariant-loop-answer
invariant-loop-answer l = l.cells.items
    ≡ map (kept_cell l.processes) (filter (is_open l.lost) (take l.answer-index l.answer-items))
