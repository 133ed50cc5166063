use Rattle.std.proofs.Common.{subst}
use Rattle.std.specs.Option.{ForSome}
use Rattle.bbs_board.specs.Doubts.{doubts_in, RoseForEach}
use Rattle.bbs_board.specs.Kept.{Kept}
use Rattle.bbs_board.specs.View.{View}
use Rattle.bbs_board.proofs.board.Board.close.Goals as goal

pub returns-clause-kept : goal.returns-clause-kept
returns-clause-kept g c =
    subst (λ (v : View g.row.D.Denot). ForSome (g.D.Disk.told v.disk) (Kept v.base v.log v.marks v.since))
    c.self.view_is (λ p is. (c.self.invariant.holds p is).kept)

pub returns-clause-doubts : goal.returns-clause-doubts
returns-clause-doubts g c =
    subst (λ (v : View g.row.D.Denot). RoseForEach (doubts_in v.log) v.faults (g.D.Disk.fault_count v.disk))
    c.self.view_is c.self.invariant.doubted
