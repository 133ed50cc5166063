use Rattle.std.proofs.Common.{◌+◌, ◌++◌, List, drop, sym, ap, ◌∙◌}
use Rattle.cell_drains.specs.Batches.{batches_from}
use Rattle.cell_drains.specs.declared.seats.Seat.{Seat}
use Rattle.what_if.proofs.Lists.{drop_next}
use Rattle.cell_drains.proofs.batches.batches_from.Goals as goal

pub loop-seat-preserved : goal.loop-seat-preserved
loop-seat-preserved c =
    let cells = c.args.cells.now in
    let i = c.loop-seat.seat-index in
    let s = c.seat-item.result in
    c.in_ok-add_cell.ensures (drop (i + 1) cells)
    ∙ ap (λ (rest : List Seat). c.loop-seat.done.items ++ batches_from c.args.most c.loop-seat.batch rest)
    (sym (drop_next cells i s c.loop-seat-test.true c.seat-item.is))
    ∙ c.loop-seat.invariant
