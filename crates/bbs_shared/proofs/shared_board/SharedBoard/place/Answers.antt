-- What the turn says, carried over to what is seen.
use Rattle.std.proofs.Common.{◌≡◌, length, rules}
use Rattle.bbs_shared.specs.Boards.{IsRead}
use Rattle.bbs_shared.proofs.Turning.{turn_at, shared_looks, of_seen}
use Rattle.bbs_shared.proofs.shared_board.SharedBoard.place.Goals as goal

pub returns-clause-looks : goal.returns-clause-looks
returns-clause-looks g c =
    let t = c.turn.ensures.turn in
    let read : IsRead t.ran.shown.now t.ran.left.now = search rules in
    shared_looks _ _ _ _ (turn_at _ _ _ _ _ _ t) read

pub returns-clause-place : goal.returns-clause-place
returns-clause-place g c =
    let t = c.turn.ensures.turn in
    let before = t.ran.shown.now in
    let read : IsRead before t.ran.left.now = search rules in
    let is : c.turn.result ≡ length before.board.log = search rules in
    of_seen _ _ _ _ (turn_at _ _ _ _ _ _ t) read
    (λ base log. c.turn.result ≡ length log) is
