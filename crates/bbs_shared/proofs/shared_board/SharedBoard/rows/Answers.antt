-- What the turn says, carried over to what is seen.
use Rattle.std.proofs.Common.{◌≡◌, IfOk, rules}
use Rattle.bbs_board.specs.View.{rows_of}
use Rattle.bbs_model.specs.Replay.{replay_log}
use Rattle.bbs_model.specs.Valid.{IsValid}
use Rattle.bbs_shared.specs.Boards.{IsRead}
use Rattle.bbs_shared.proofs.Turning.{turn_at, shared_looks, of_seen}
use Rattle.bbs_shared.proofs.shared_board.SharedBoard.rows.Goals as goal

pub returns-clause-looks : goal.returns-clause-looks
returns-clause-looks g c =
    let t = c.turn.ensures.turn in
    let read : IsRead t.ran.shown.now t.ran.left.now = search rules in
    shared_looks _ _ _ _ (turn_at _ _ _ _ _ _ t) read

pub returns-clause-rows : goal.returns-clause-rows
returns-clause-rows g c =
    let t = c.turn.ensures.turn in
    let before = t.ran.shown.now in
    let read : IsRead before t.ran.left.now = search rules in
    let is : IfOk c.turn.result (λ rows. rows ≡ rows_of before.board) = search rules in
    of_seen _ _ _ _ (turn_at _ _ _ _ _ _ t) read
    (λ base log. IfOk c.turn.result (λ rows. rows ≡ replay_log base log)) is

pub returns-clause-valid : goal.returns-clause-valid
returns-clause-valid g c =
    let t = c.turn.ensures.turn in
    let before = t.ran.shown.now in
    let read : IsRead before t.ran.left.now = search rules in
    let is : IsValid (rows_of before.board) = search rules in
    of_seen _ _ _ _ (turn_at _ _ _ _ _ _ t) read
    (λ base log. IsValid (replay_log base log)) is
