-- The board starts lawful.
use Rattle.std.proofs.Common.{◌∷◌, [], Some, ap, sym, ◌∙◌, arith}
use Rattle.ticket_desk.proofs.Ends.{starts_with}
use Rattle.ticket_desk.proofs.start.lay.Goals as goal

pub new-requires : goal.new-requires
new-requires g c =
    starts_with g.V.History.items g.V.History.origin g.V.History.by c.of-about.result.value c.args.from
    (omega arith) c.in-Ok.slots.items
    (c.in-Ok.ensures.ok ∙ ap (λ x. Some x ∷ []) (sym c.of-about.ensures))
