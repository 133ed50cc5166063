-- What stands at the desk is the board that was handed in.
use Rattle.std.proofs.Common.{ap, subst}
use Rattle.bbs_board.specs.View.{View}
use Rattle.bbs_shared.specs.Boards.{BoardStanding}
use Rattle.bbs_shared.specs.Sharings.{AreHanded}
use Rattle.bbs_shared.proofs.Sharing.{handed}
use Rattle.bbs_shared.proofs.shared_board.SharedBoard.start.Goals as goal

pub returns-in-Ok-clause-passes : goal.returns-in-Ok-clause-passes
returns-in-Ok-clause-passes g c =
    let z = c.in-Ok.desk.table.shared.table_id in
    subst (λ (b : View g.row.D.Denot). AreHanded b z c.args.passes c.in-Ok.dealt.items)
    (ap (λ (at : BoardStanding g.row.D.Denot). at.board) c.new.ensures)
    (handed c.new.result z c.args.passes c.in-Ok.dealt.items c.in-Ok.ensures.ok.1)
