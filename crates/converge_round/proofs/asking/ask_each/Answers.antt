use Rattle.converge_round.specs.Askings.{AsksOne}
use Rattle.converge_round.proofs.Eachs.{each-more}
use Rattle.converge_round.proofs.asking.ask_each.Goals as goal

pub loop-row-preserved : goal.loop-row-preserved
loop-row-preserved g c =
    each-more (AsksOne c.args.cells.now) c.args.present.now c.loop-row.row-index c.row-item.result _ _ _
    c.loop-row-test.true c.row-item.is c.loop-row.invariant c.in_ok-ask_next.ensures
