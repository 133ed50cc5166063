-- The passes are those of the board that the desk had.
use Rattle.std.proofs.Common.{ap, sym, subst}
use Rattle.ticket_desk.specs.Passes.{AreAll}
use Rattle.ticket_desk.proofs.desk.Desk.close.Goals as goal

pub end_with_all-requires-clause-all : goal.end_with_all-requires-clause-all
end_with_all-requires-clause-all g c =
    subst (λ z. AreAll z c.args.passes.items) (sym (ap (λ t. t.shared.table_id) c.into_board.ensures)) c.requires
