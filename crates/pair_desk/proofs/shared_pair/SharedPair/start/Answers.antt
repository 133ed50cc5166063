-- What stands at the desk is the pair that was handed in.
use Rattle.std.proofs.Common.{subst}
use Rattle.bbs_shared.specs.Sharings.{AreHanded}
use Rattle.standby_board.specs.Pairs.{PairView}
use Rattle.pair_desk.proofs.Closing.{handed}
use Rattle.pair_desk.proofs.shared_pair.SharedPair.start.Goals as goal

pub returns-in-Ok-clause-passes : goal.returns-in-Ok-clause-passes
returns-in-Ok-clause-passes g c =
    let z = c.in-Ok.desk.table.shared.table_id in
    subst (λ (v : PairView g.row.D.Denot g.row.E.Denot). AreHanded v.primary z c.args.passes c.in-Ok.dealt.items)
    c.new.ensures
    (handed c.new.result z c.args.passes c.in-Ok.dealt.items c.in-Ok.ensures.ok.1)
