use Rattle.std.proofs.Common.{ap, ◌<◌, length, ◌∙◌, arith, List}
use Rattle.std.specs.Vec.Iter.{into_iter_items}
use Rattle.cell_rep.specs.declared.rep.CellRep.{CellRep}
use Rattle.phase_runs.specs.Reps.{with_reps}
use Rattle.phase_runs.proofs.Cells.{all_put, behind_put, more_put}
use Rattle.phase_runs.proofs.reps.put_reps.Goals as goal

pub loop-index-preserved : goal.loop-index-preserved
loop-index-preserved c =
    let within : c.loop-index.index < length c.loop-index.actors =
    omega (arith, c.loop-index-test.true, c.loop-index.auto.actors) in
    record {
      whole =
          more_put c.args.actors.now c.loop-index.actors (into_iter_items c.into_iter-reps.result)
          (into_iter_items c.loop-index.reps) (into_iter_items c.put_next.new.reps)
          c.loop-index.index c.index-actors-index.result c.put_next.new.actor within c.loop-index-test.true
          c.loop-index.invariant.whole c.loop-index.invariant.same
          c.put_next.ensures;
      same =
          behind_put c.args.actors.now c.loop-index.actors (into_iter_items c.into_iter-reps.result)
          (into_iter_items c.loop-index.reps) (into_iter_items c.put_next.new.reps)
          c.loop-index.index c.index-actors-index.result c.put_next.new.actor within c.loop-index-test.true
          c.loop-index.invariant.whole c.loop-index.invariant.same
          c.put_next.ensures;
    }

pub returns : goal.returns
returns c =
    all_put c.args.actors.now c.loop-index.actors (into_iter_items c.into_iter-reps.result)
    (into_iter_items c.loop-index.reps) c.loop-index.index
    (omega (arith, c.loop-index-test.false, c.loop-index.auto.actors)) c.loop-index-test.false
    c.loop-index.invariant.whole
    ∙ ap (λ (l : List CellRep). with_reps c.args.actors.now l) c.into_iter-reps.ensures.rest
