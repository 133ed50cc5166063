use Rattle.converge_round.specs.Places.{OpensOne}
use Rattle.converge_round.proofs.Eachs.{each-more}
use Rattle.converge_round.proofs.placing.open_cells.Goals as goal

pub loop-answer-preserved : goal.loop-answer-preserved
loop-answer-preserved c =
    each-more (OpensOne c.args.rows.now c.args.cells.now) c.args.got.now c.loop-answer.answer-index c.answer-item.result
    _ _ _ c.loop-answer-test.true c.answer-item.is c.loop-answer.invariant c.in_ok-open_next.ensures
