use Rattle.std.proofs.Common.{List, map, ap, ◌∙◌}
use Rattle.row_tables.specs.Table.{table}
use Rattle.what_if.proofs.Rows.{rows-of_table}
use Rattle.cell_drains.specs.Seats.{seat_order}
use Rattle.cell_drains.specs.declared.seats.Seat.{Seat}
use Rattle.cell_drains.proofs.SeatOrders.{IsKeyOrder-seat_order}
use Rattle.cell_drains.proofs.seats.by_seat.Goals as goal

pub table_of-requires : goal.table_of-requires
table_of-requires c = IsKeyOrder-seat_order.exact

pub returns : goal.returns
returns c =
    c.in_ok-made.ensures
    ∙ ap (λ (rs : List (Seat × Seat)). map (λ (p : Seat × Seat). p.1) (table seat_order (λ (p : Seat × Seat). p.0) rs))
    (c.deref.ensures.value ∙ c.in_ok-rows.ensures)
    ∙ rows-of_table seat_order (λ (s : Seat). s) c.args.cells.now
