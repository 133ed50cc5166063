-- What the turn says, carried over to what is seen.
use Rattle.std.proofs.Common.{◌≡◌, ◌<◌, ◌^◌, ◌++◌, length, rules}
use Rattle.bbs_board.specs.View.{rows_of}
use Rattle.bbs_model.specs.Calls.{Ends, added}
use Rattle.bbs_model.specs.Step.{verdict_of}
use Rattle.bbs_shared.proofs.Turning.{turn_at, shared_called}
use Rattle.bbs_shared.proofs.shared_board.SharedBoard.call.Goals as goal

pub returns-clause-called : goal.returns-clause-called
returns-clause-called g c =
    let t = c.turn.ensures.turn in
    let before = t.ran.shown.now in let after = t.ran.left.now in
    let by = c.args.pass.now.number in let end = c.turn.result in
    let ends : Ends (verdict_of (rows_of before.board) c.args.command) (length before.board.log)
    (rows_of before.board).next end = search rules in
    let log : after.board.log ≡ before.board.log ++ added end by c.args.command = search rules in
    let few : length after.board.log < 2 ^ 64 = search rules in
    shared_called _ _ before after (turn_at _ _ _ _ _ _ t) by c.args.command end log ends few
