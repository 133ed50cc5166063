-- What the desk says of its end.
use Rattle.std.proofs.Common.{◌≡◌, sym, subst}
use Rattle.standby_board.specs.Pairs.{PairView}
use Rattle.pair_desk.specs.Turns.{CameBack}
use Rattle.pair_desk.proofs.Closing.{came_back}
use Rattle.pair_desk.proofs.shared_pair.SharedPair.close.Goals as goal

pub returns-clause-back : goal.returns-clause-back
returns-clause-back g c =
    let passes = c.args.passes.items in
    let found : PairView g.row.D.Denot g.row.E.Denot = c.into_desk.result.table.shared.key.value in
    let start : PairView g.row.D.Denot g.row.E.Denot = c.args.self.desk.table.shared.key.value in
    let same : found ≡ start = λ i. (c.into_desk.ensures i).table.shared.key.value in
    subst (λ (v : PairView g.row.D.Denot g.row.E.Denot). CameBack v c.into_pair-pair.result passes) same
    (subst (λ (v : PairView g.row.D.Denot g.row.E.Denot). CameBack found v passes) (sym c.into_pair-pair.ensures)
    (came_back found c.close.result passes c.close.ensures))
