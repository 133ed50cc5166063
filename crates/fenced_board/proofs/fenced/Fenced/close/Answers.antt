use Rattle.std.proofs.Common.{subst}
use Rattle.std.specs.Option.{ForSome}
use Rattle.bbs_board.specs.Kept.{Kept}
use Rattle.fenced_board.specs.Fences.{FencedView}
use Rattle.fenced_board.proofs.fenced.Fenced.close.Goals as goal

pub returns-clause-kept : goal.returns-clause-kept
returns-clause-kept g c =
    subst (λ (v : FencedView g.row.D.Denot). ForSome (g.D.Disk.told v.board.disk)
    (Kept v.board.base v.board.log v.board.marks v.board.since))
    c.self.view_is c.close.ensures.kept
