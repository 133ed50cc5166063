use Rattle.std.proofs.Common.{◌≡◌, drop}
use Rattle.cell_drains.specs.Seats.{seat_named}
use Rattle.cell_drains.proofs.seats.seat_named.Given as goal

abbrev pub invariant-loop-seat : goal.invariant-loop-seat
invariant-loop-seat l = seat_named (drop l.seat-index l.cells) l.name ≡ seat_named l.fn.cells l.fn.name
