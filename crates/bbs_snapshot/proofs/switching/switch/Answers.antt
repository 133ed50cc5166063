use Rattle.std.proofs.Common.{◌≡◌, false, is_ok, rules}
use Rattle.bbs_snapshot.proofs.Steps.{close_failed, write_failed, opened_or_not}
use Rattle.bbs_snapshot.proofs.switching.switch.Goals as goal

pub returns-in_err-close_other-clause-does : goal.returns-in_err-close_other-clause-does
returns-in_err-close_other-clause-does g c =
    let failed : is_ok c.from_residual.result ≡ false = search rules in
    rw failed (close_failed g.D.Disk.told c.args.journal.now c.close_other.new.self c.args.head.now
    c.in_err-close_other.ensures.leaves c.in_err-close_other.ensures.does)

pub returns-in_err-write_other-clause-does : goal.returns-in_err-write_other-clause-does
returns-in_err-write_other-clause-does g c =
    let failed : is_ok c.from_residual-in_err-write_other.result ≡ false = search rules in
    rw failed (write_failed g.D.Disk.told _ _ c.args.head.now _ c.requires.can.calm.mended
    c.in_ok-close_other.ensures.leaves c.in_ok-close_other.ensures.does c.in_err-write_other.ensures.leaves
    c.in_err-write_other.ensures.does)

pub returns-clause-does : goal.returns-clause-does
returns-clause-does g c =
    opened_or_not g.D.Disk.told _ _ c.args.head.now _ c.requires.can.calm.mended c.in_ok-close_other.ensures.leaves
    c.in_ok-close_other.ensures.does _ c.in_ok-write_other.ensures.leaves c.in_ok-write_other.ensures.does _
    c.open_other.ensures.leaves c.open_other.ensures.does
