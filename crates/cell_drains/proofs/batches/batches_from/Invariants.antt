use Rattle.std.proofs.Common.{◌≡◌, ◌++◌, drop}
use Rattle.cell_drains.specs.Batches.{batches_from}
use Rattle.cell_drains.proofs.batches.batches_from.Given as goal

abbrev pub invariant-loop-seat : goal.invariant-loop-seat
invariant-loop-seat l =
    l.done.items ++ batches_from l.most l.batch (drop l.seat-index l.cells)
    ≡ batches_from l.fn.most l.fn.first l.fn.cells
