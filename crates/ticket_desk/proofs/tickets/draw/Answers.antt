-- A free seat may draw.
use Rattle.std.proofs.Common.{arith}
use Rattle.ticket_desk.proofs.Draws.{draws}
use Rattle.ticket_desk.proofs.tickets.draw.Goals as goal

pub fetch_add-requires : goal.fetch_add-requires
fetch_add-requires g c = let asked = c.requires.board in let free = c.requires.free in (
  asked.0,
  omega arith,
  draws g.V.History.items g.V.History.origin g.V.History.by _ _ _ c.args.number _ free.0 free.2 free.1,
)
