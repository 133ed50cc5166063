use Rattle.std.proofs.Common.{subst}
use Rattle.std.specs.Option.{ForSome}
use Rattle.bbs_board.specs.Kept.{Kept}
use Rattle.bbs_board.specs.View.{View}
use Rattle.bbs_board.proofs.board.Board.holds.Goals as goal

pub returns-clause-kept : goal.returns-clause-kept
returns-clause-kept g c =
    subst (λ (v : View g.row.D.Denot). ForSome (g.D.Disk.told v.disk) (Kept v.base v.log v.marks v.since))
    c.self.view_is (λ p is. (c.self.invariant.holds p is).kept)
