use Rattle.std.proofs.Common.{◌≡◌, true, false, is_ok, length, rules}
use Rattle.bbs_board.proofs.Mending.{mended, put_unmended, put_added, put_then, grows_closed, adds_shut, adds_calm, frame_only}
use Rattle.bbs_board.proofs.putting.put.Goals as goal

pub returns-in_err-mend-clause-puts : goal.returns-in_err-mend-clause-puts
returns-in_err-mend-clause-puts g c =
    let e = c.in_err-mend.ensures in
    let failed : is_ok c.from_residual.result ≡ false = search rules in
    rw failed (put_unmended g.D.Disk.told c.args.journal.now c.mend.new.self c.args.payload.now _
    (λ q told. g.met.D.Disk.timed c.mend.new.self.disk q told)
    (mended g.D.Disk.told c.args.journal.now c.mend.new.self false e.settles e.frame e.header))

pub returns-in-Ok-clause-puts : goal.returns-in-Ok-clause-puts
returns-in-Ok-clause-puts g c =
    let e = c.in_ok-mend.ensures in
    let made = c.in-Ok.ensures in
    put_then g.D.Disk.told c.args.journal.now c.mend.new.self c.append.new.self true c.args.payload.now _
    e.settles.stays.version (mended g.D.Disk.told c.args.journal.now c.mend.new.self _ e.settles e.frame e.header)
    (put_added g.D.Disk.told c.mend.new.self c.append.new.self true c.args.payload.now _
    (λ q told. g.met.D.Disk.timed c.append.new.self.disk q told) e.settles.waiting made.grows made.does)

pub returns-in-Err-clause-puts : goal.returns-in-Err-clause-puts
returns-in-Err-clause-puts g c =
    let e = c.in_ok-mend.ensures in
    let failed = c.in-Err.ensures in
    put_then g.D.Disk.told c.args.journal.now c.mend.new.self c.mend-closed.new.self false c.args.payload.now _
    e.settles.stays.version (mended g.D.Disk.told c.args.journal.now c.mend.new.self _ e.settles e.frame e.header)
    (put_added g.D.Disk.told c.mend.new.self c.mend-closed.new.self false c.args.payload.now _
    (λ q told. g.met.D.Disk.timed c.mend-closed.new.self.disk q told) e.settles.waiting
    (grows_closed _ _ _ (length c.args.payload.now) _ failed.grows c.mend-closed.ensures.settles)
    (adds_shut g.D.Disk.told c.mend.new.self c.append.new.self c.mend-closed.new.self c.args.payload.now _ failed.does
    failed.grows c.mend-closed.ensures.settles (λ is. c.mend-closed.ensures.frame
    (frame_only _ failed.grows.frame is))))

pub returns-in-Err-clause-appends : goal.returns-in-Err-clause-appends
returns-in-Err-clause-appends g c =
    let failed = c.in-Err.ensures in
    λ idle.
    adds_calm g.D.Disk.told c.args.journal.now c.mend.new.self c.mend-closed.new.self _ _ c.args.payload.now
    c.in_ok-mend.ensures.settles idle
    (adds_shut g.D.Disk.told c.mend.new.self c.append.new.self c.mend-closed.new.self c.args.payload.now _ failed.does
    failed.grows c.mend-closed.ensures.settles (λ is. c.mend-closed.ensures.frame
    (frame_only _ failed.grows.frame is)))
