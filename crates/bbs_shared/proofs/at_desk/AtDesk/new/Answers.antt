-- A board that is shared begins at itself.
use Rattle.std.proofs.Common.{sym, subst}
use Rattle.bbs_shared.specs.Boards.{HasGone}
use Rattle.bbs_shared.proofs.Turning.{not_gone}
use Rattle.bbs_shared.proofs.at_desk.AtDesk.new.Goals as goal

pub invariant_of-result : goal.invariant_of-result
invariant_of-result g c =
    subst (λ v. HasGone g.D.Disk.told v c.args.board) (sym c.of-start.ensures) (not_gone g.D.Disk.told c.args.board)
