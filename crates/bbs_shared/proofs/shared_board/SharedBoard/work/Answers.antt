-- What the turn says, carried over to what is seen.
use Rattle.std.proofs.Common.{◌≡◌, IfOk, rules}
use Rattle.bbs_board.specs.View.{rows_of}
use Rattle.bbs_model.specs.Replay.{replay_log}
use Rattle.bbs_model.specs.Work as asked
use Rattle.bbs_shared.specs.Boards.{IsRead}
use Rattle.bbs_shared.proofs.Turning.{turn_at, shared_looks, of_seen}
use Rattle.bbs_shared.proofs.shared_board.SharedBoard.work.Goals as goal

pub returns-clause-looks : goal.returns-clause-looks
returns-clause-looks g c =
    let t = c.turn.ensures.turn in
    let read : IsRead t.ran.shown.now t.ran.left.now = search rules in
    shared_looks _ _ _ _ (turn_at _ _ _ _ _ _ t) read

pub returns-clause-work : goal.returns-clause-work
returns-clause-work g c =
    let t = c.turn.ensures.turn in
    let before = t.ran.shown.now in
    let read : IsRead before t.ran.left.now = search rules in
    let is : IfOk c.turn.result (λ list. list ≡ asked.work (rows_of before.board) c.args.now) = search rules in
    of_seen _ _ _ _ (turn_at _ _ _ _ _ _ t) read
    (λ base log. IfOk c.turn.result (λ list. list ≡ asked.work (replay_log base log) c.args.now)) is
