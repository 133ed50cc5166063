use Rattle.std.proofs.Common.{◌≡◌, false, is_ok, refl, rules}
use Rattle.bbs_board.proofs.Closing.{closed_switch, stays_closed}
use Rattle.bbs_board.proofs.Compacting.{moves_switched, moves_then, moves_not, left_knows, moved_not, moved_made, moved_left}
use Rattle.bbs_board.proofs.Mending.{mended}
use Rattle.bbs_board.proofs.checkpoint.move_on.Goals as goal

pub returns-in_err-mend-clause-moves : goal.returns-in_err-mend-clause-moves
returns-in_err-mend-clause-moves g c =
    let e = c.in_err-mend.ensures in
    let failed : is_ok c.from_residual.result ≡ false = search rules in
    rw failed (moves_not g.D.Disk.told c.args.journal.now c.mend.new.self c.args.head.now e.settles
    (mended g.D.Disk.told c.args.journal.now c.mend.new.self false e.settles e.frame e.header))

pub returns-in_err-mend-clause-knows : goal.returns-in_err-mend-clause-knows
returns-in_err-mend-clause-knows g c =
    let failed : is_ok c.from_residual.result ≡ false = search rules in
    rw failed (moved_not c.args.journal.now c.mend.new.self c.mend.new.self c.requires.whole
    c.in_err-mend.ensures.settles)

pub returns-in-Ok-clause-moves : goal.returns-in-Ok-clause-moves
returns-in-Ok-clause-moves g c =
    let e = c.in_ok-mend.ensures in
    let made = c.in-Ok.ensures in
    moves_then g.D.Disk.told c.args.journal.now c.mend.new.self c.switch.new.journal _ c.args.head.now e.settles
    (mended g.D.Disk.told c.args.journal.now c.mend.new.self _ e.settles e.frame e.header)
    (moves_switched g.D.Disk.told c.mend.new.self c.switch.new.journal _ c.args.head.now e.settles.waiting
    c.requires.few made.goes_on made.does)

pub returns-in-Ok-clause-knows : goal.returns-in-Ok-clause-knows
returns-in-Ok-clause-knows g c = moved_made c.args.journal.now c.mend.new.self c.switch.new.journal c.requires.whole _
    c.in_ok-mend.ensures.settles c.in-Ok.ensures.goes_on

pub returns-in-Err-clause-moves : goal.returns-in-Err-clause-moves
returns-in-Err-clause-moves g c =
    let e = c.in_ok-mend.ensures in
    let failed = c.in-Err.ensures in
    let shut = c.mend-closed.ensures in
    let there = failed.goes_on.failed refl in
    moves_then g.D.Disk.told c.args.journal.now c.mend.new.self c.mend-closed.new.self false c.args.head.now e.settles
    (mended g.D.Disk.told c.args.journal.now c.mend.new.self _ e.settles e.frame e.header)
    (moves_switched g.D.Disk.told c.mend.new.self c.mend-closed.new.self false c.args.head.now e.settles.waiting
    c.requires.few
    (left_knows _ _ _ (stays_closed g.D.Disk.told c.mend.new.self c.switch.new.journal c.mend-closed.new.self _
    c.args.head.now there shut.settles))
    (closed_switch g.D.Disk.told c.mend.new.self c.switch.new.journal c.mend-closed.new.self _ c.args.head.now there
    shut.settles failed.does shut.header))

pub returns-in-Err-clause-knows : goal.returns-in-Err-clause-knows
returns-in-Err-clause-knows g c =
    let there = c.in-Err.ensures.goes_on.failed refl in
    moved_left c.args.journal.now c.mend.new.self c.mend-closed.new.self c.requires.whole c.in_ok-mend.ensures.settles
    (stays_closed g.D.Disk.told c.mend.new.self c.switch.new.journal c.mend-closed.new.self _ c.args.head.now there
    c.mend-closed.ensures.settles)
