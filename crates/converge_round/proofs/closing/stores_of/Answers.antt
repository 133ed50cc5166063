use Rattle.std.proofs.Common.{[]}
use Rattle.cell_rep.specs.Reps.{answer_of}
use Rattle.converge_round.proofs.Lists.{kept_more}
use Rattle.converge_round.proofs.closing.stores_of.Goals as goal

pub loop-rep-preserved : goal.loop-rep-preserved
loop-rep-preserved c =
    kept_more answer_of c.args.cells.now c.loop-rep.rep-index c.rep-item.result [] c.loop-rep.stores _
    c.loop-rep-test.true c.rep-item.is c.loop-rep.invariant c.in_ok-add_store.ensures
