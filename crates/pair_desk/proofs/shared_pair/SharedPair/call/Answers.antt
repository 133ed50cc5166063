-- What the turn says, carried over to what is seen.
use Rattle.std.proofs.Common.{◌≡◌, ◌<◌, ◌^◌, ◌++◌, length, rules}
use Rattle.standby_board.specs.Calls.{gained}
use Rattle.pair_desk.specs.Turns.{IsSoleCall}
use Rattle.pair_desk.proofs.Turning.{turn_at, pair_called}
use Rattle.pair_desk.proofs.shared_pair.SharedPair.call.Goals as goal

pub returns-clause-called : goal.returns-clause-called
returns-clause-called g c =
    let t = c.turn.ensures.turn in
    let before = t.ran.shown.now in let after = t.ran.left.now in
    let by = c.args.pass.now.number in let end = c.turn.result in
    let call : IsSoleCall g.D.Disk.moment g.E.Disk.moment g.D.Disk.fault_count g.E.Disk.fault_count c.args.fence by
    c.args.command before after end = search rules in
    let log : after.primary.log ≡ before.primary.log ++ gained end by c.args.command = search rules in
    let few : length after.primary.log < 2 ^ 64 = search rules in
    pair_called _ _ before after (turn_at _ _ _ _ _ _ t) g.D.Disk.moment g.E.Disk.moment g.D.Disk.fault_count
    g.E.Disk.fault_count c.args.fence by c.args.command end call log few
