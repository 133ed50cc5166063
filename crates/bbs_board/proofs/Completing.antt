-- No task gets its outcome twice, whatever stops come.
use Rattle.std.proofs.Common.{◌≡◌, ◌+◌, subst}
use Rattle.bbs_model.specs.Replay.{IsReached}
use Rattle.bbs_model.specs.declared.rows.Rows.{Rows}
use Rattle.bbs_laws.proofs.Public.{once_over_openings}
use Rattle.bbs_board.specs.Laws.{CompletesOnceOverStops}
use Rattle.bbs_board.proofs.Loaded.{one_board}

pub completes_once_over_stops : CompletesOnceOverStops
completes_once_over_stops base log marks since p valid lawful kept place mark by command item marked image found later
    birth images board law =
    let left = kept.acknowledged place mark by command item marked image images in
    let same : left.rows ≡ found = one_board left.rows found image left.board board in
    once_over_openings base log (place + 1) birth valid lawful found later
    (subst (λ (r : Rows). IsReached base log (place + 1) r) same left.reached) law
