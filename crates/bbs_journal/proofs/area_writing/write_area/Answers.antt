use Rattle.std.proofs.Common.{◌≡◌, false, is_ok, rules}
use Rattle.bbs_journal.proofs.AreaWriting.{fails_at_first, fails_at_second, room_third, ends_all}
use Rattle.bbs_journal.proofs.area_writing.write_area.Goals as goal

pub returns-in_err-write_at-clause-does : goal.returns-in_err-write_at-clause-does
returns-in_err-write_at-clause-does g c =
    let failed : is_ok c.from_residual.result ≡ false = search rules in
    rw failed (fails_at_first _ _ c.args.head.now c.requires.size _ c.requires.shut _ _ c.in_err-write_at.ensures.does)

pub returns-in_err-write_at-2-clause-does : goal.returns-in_err-write_at-2-clause-does
returns-in_err-write_at-2-clause-does g c =
    let failed : is_ok c.from_residual-in_err-write_at-2.result ≡ false = search rules in
    rw failed (fails_at_second _ _ _ c.requires.size _ c.requires.shut _ c.in_ok-write_at.ensures.does _ _
    c.in_err-write_at-2.ensures.does)

pub write_synced-requires : goal.write_synced-requires
write_synced-requires g c =
    room_third _ _ _ c.requires.size _ c.requires.shut _ c.in_ok-write_at.ensures.does _ c.in_ok-write_at-2.ensures.does

pub returns-clause-does : goal.returns-clause-does
returns-clause-does g c =
    ends_all _ _ _ c.requires.size _ c.requires.shut _ c.in_ok-write_at.ensures.does _ c.in_ok-write_at-2.ensures.does _
    _ c.write_synced.ensures.does
