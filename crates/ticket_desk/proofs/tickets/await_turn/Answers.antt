-- A seat with a ticket may look.
use Rattle.std.proofs.Common.{ap, ◌∙◌, arith}
use Rattle.ticket_desk.proofs.Looks.{looks}
use Rattle.ticket_desk.proofs.tickets.await_turn.Goals as goal

pub load-served-requires : goal.load-served-requires
load-served-requires g c = let asked = c.requires.board in let waits = c.requires.waits in let same =
    c.loop.invariant.1 in (
      c.loop.invariant.0 ∙ asked.0,
      omega arith,
      looks g.V.History.items g.V.History.origin g.V.History.by _ _ _ c.args.number c.args.ticket _
          (ap (λ m. m.0.number) same ∙ waits.0) (ap (λ m. m.0.ticket) same ∙ waits.1) (ap (λ m. m.0.turn) same ∙ waits.2),
    )
