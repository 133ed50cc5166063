-- Until the turn comes the seat stays as it is.
use Rattle.std.proofs.Common.{◌≡◌, ◌≤◌}
use Rattle.ticket_desk.proofs.tickets.await_turn.Given as goal

abbrev pub invariant-loop : goal.invariant-loop
invariant-loop g l = (l.place.table_id ≡ l.fn.place.table_id) × (l.place.me ≡ l.fn.place.me) × (l.looks ≤ 16)
