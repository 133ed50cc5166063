use Rattle.std.proofs.Common.{◌≡◌, ◌++◌, map, take}
use Rattle.std.specs.List.{filter_map}
use Rattle.bbs_model.specs.Work.{at, cell_work}
use Rattle.cell_records.specs.declared.cell_row.CellRow.{CellRow}
use Rattle.convergence.proofs.working.ask_cells.Given as goal

abbrev pub invariant-loop-cell : goal.invariant-loop-cell
invariant-loop-cell l = l.asked ≡ l.fn.asked ++ map (at l.now)
    (filter_map (λ (c : CellRow). cell_work c l.now) (take l.cell-index l.cells))
