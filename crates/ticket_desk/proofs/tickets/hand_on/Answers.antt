-- A seat whose turn is done may hand on.
use Rattle.std.proofs.Common.{refl, arith}
use Rattle.ticket_desk.proofs.HandsOn.{hands_on}
use Rattle.ticket_desk.proofs.tickets.hand_on.Goals as goal

pub store-requires : goal.store-requires
store-requires g c = let asked = c.requires.board in (
  asked.0,
  omega arith,
  hands_on g.V.History.items g.V.History.origin g.V.History.by _ _ _ c.args.number c.args.ticket _ _ c.requires.done
      refl,
)
