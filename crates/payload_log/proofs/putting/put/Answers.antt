use Rattle.std.proofs.Common.{refl, ap}
use Rattle.bbs_journal.specs.View.{is_waiting}
use Rattle.payload_log.proofs.Mending.{put_made, put_failed, adds_failed, frame_only, grows_on, grows_closed}
use Rattle.payload_log.proofs.putting.put.Goals as goal

pub returns-in-Ok-clause-does : goal.returns-in-Ok-clause-does
returns-in-Ok-clause-does g c =
    let made = c.in-Ok.ensures in
    put_made g.D.Disk.told c.args.journal.now c.mend.new.self c.append.new.self c.args.payload.now
    c.in_ok-mend.ensures.settles (λ is. c.in_ok-mend.ensures.frame (frame_only _ c.requires.own is))
    (ap is_waiting (made.grows.waits refl)) made.does

pub returns-in-Err-clause-does : goal.returns-in-Err-clause-does
returns-in-Err-clause-does g c =
    let failed = c.in-Err.ensures in
    put_failed g.D.Disk.told c.args.journal.now c.mend.new.self c.append.new.self c.args.payload.now
    c.in_ok-mend.ensures.settles (λ is. c.in_ok-mend.ensures.frame (frame_only _ c.requires.own is))
    c.mend-closed.new.self _ failed.does failed.grows
    c.mend-closed.ensures.settles (λ is. c.mend-closed.ensures.frame (frame_only _ failed.grows.frame is))

pub returns-in-Err-clause-appends : goal.returns-in-Err-clause-appends
returns-in-Err-clause-appends g c =
    let failed = c.in-Err.ensures in
    adds_failed g.D.Disk.told c.args.journal.now c.mend.new.self c.append.new.self c.args.payload.now
    c.in_ok-mend.ensures.settles (λ is. c.in_ok-mend.ensures.frame (frame_only _ c.requires.own is))
    c.mend-closed.new.self _ failed.does failed.grows
    c.mend-closed.ensures.settles (λ is. c.mend-closed.ensures.frame (frame_only _ failed.grows.frame is))

pub returns-in-Err-clause-grows : goal.returns-in-Err-clause-grows
returns-in-Err-clause-grows g c =
    let failed = c.in-Err.ensures in
    grows_on _ _ _ c.requires.own _ _ c.in_ok-mend.ensures.settles
    (grows_closed _ _ _ _ _ failed.grows c.mend-closed.ensures.settles)
