use Rattle.std.proofs.Common.{◌++◌, List, take, get_or, ap, sym, ◌∙◌, arith}
use Rattle.std.specs.Option.{option_to_list}
use Rattle.cell_rep.specs.declared.rep.CellRep.{CellRep}
use Rattle.phase_actors.specs.declared.actor_state.ActorState.{ActorState}
use Rattle.phase_runs.specs.Reps.{rep_of, reps_of}
use Rattle.phase_runs.proofs.Cells.{more_bare, more_reps, next_is}
use Rattle.phase_runs.proofs.reps.take_reps.Goals as goal

pub loop-index-preserved : goal.loop-index-preserved
loop-index-preserved c =
    let olds = c.args.actors.now in
    let i = c.loop-index.index in
    let a = c.index-actors-index.result in
    let next = next_is olds c.loop-index.actors i a a c.loop-index-test.true c.loop-index.invariant.bared in
    record {
      taken = c.take_next.ensures.items
          ∙ ap (λ (rs : List CellRep). rs ++ option_to_list (rep_of (get_or c.loop-index.actors i a)))
          c.loop-index.invariant.taken
          ∙ ap (λ (x : ActorState). reps_of (take i olds) ++ option_to_list (rep_of x)) next
          ∙ sym (more_reps olds i a c.loop-index-test.true);
      bared = more_bare olds c.loop-index.actors i a c.take_next.new.actor c.loop-index-test.true
          c.loop-index.invariant.bared
          c.take_next.ensures.bare;
      room = omega (
        arith,
        c.take_next.ensures.room.0,
        c.take_next.ensures.room.1,
        c.loop-index.invariant.room,
        c.loop-index-test.true,
      );
    }
