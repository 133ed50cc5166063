-- At the end the value is home.
use Rattle.std.proofs.Common.{ap, subst, sym, ◌∙◌, is_some}
use Rattle.ticket_desk.specs.Ends.{IsLeft}
use Rattle.ticket_desk.proofs.Ends.{left_behind}
use Rattle.ticket_desk.proofs.Views.{some_same}
use Rattle.ticket_desk.proofs.close.end.Goals as goal

pub unwrap-requires : goal.unwrap-requires
unwrap-requires g c =
    let left = left_behind g.V.History.items g.V.History.origin g.V.History.by _ _ _ c.requires.all _ _
    c.close_with-closed.ensures.values.2 _ c.take-found.ensures.value in
    ap is_some left.1

pub returns : goal.returns
returns g c =
    let left = left_behind g.V.History.items g.V.History.origin g.V.History.by _ _ _ c.requires.all _ _
    c.close_with-closed.ensures.values.2 _ c.take-found.ensures.value in
    subst (λ x. IsLeft g.V.History.items g.V.History.origin g.V.History.by c.args.board.shared.key.value
    c.args.first.me.0 x)
    (some_same left.0 c.unwrap.result (sym left.1 ∙ c.unwrap.ensures)) left.2
