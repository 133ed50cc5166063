-- What the desk says of its end, and the board of how it went on.
use Rattle.std.proofs.Common.{◌≡◌, ap, sym, ◌∙◌, subst}
use Rattle.bbs_board.specs.View.{View}
use Rattle.bbs_shared.specs.Boards.{HasGone, BoardStanding}
use Rattle.bbs_shared.specs.Sharings.{CameBack}
use Rattle.bbs_shared.proofs.Sharing.{came_back}
use Rattle.bbs_shared.proofs.shared_board.SharedBoard.close.Goals as goal

pub returns : goal.returns
returns g c =
    let told = g.D.Disk.told in
    let passes = c.args.passes.items in
    let found : BoardStanding g.row.D.Denot = c.into_desk.result.table.shared.key.value in
    let start : BoardStanding g.row.D.Denot = c.args.self.desk.table.shared.key.value in
    let same : found ≡ start = λ i. (c.into_desk.ensures i).table.shared.key.value in
    let began : found.board ≡ found.start =
    ap (λ (at : BoardStanding g.row.D.Denot). at.board) same ∙ c.args.self.begun ∙ ap
    (λ (at : BoardStanding g.row.D.Denot). at.start) (sym same) in
    let gone : HasGone told c.close.result.start c.close.result.board =
    subst (λ (b : View g.row.D.Denot). HasGone told c.close.result.start b) c.into_board.ensures.board
    c.into_board.ensures.gone in
    subst (λ (at : BoardStanding g.row.D.Denot). CameBack told at.start c.into_board.result passes) same
    (subst (λ (b : View g.row.D.Denot). CameBack told found.start b passes) (sym c.into_board.ensures.board)
    (came_back told found c.close.result passes began c.close.ensures gone))
