use Rattle.std.proofs.Common.{◌∙◌}
use Rattle.phase_actors.specs.Turns.{actor_standing}
use Rattle.phase_actors.proofs.ByLine.{line_cut, more_runs}
use Rattle.phase_actors.proofs.OneActor.{one_then}
use Rattle.phase_actors.proofs.actor_state.ActorState.line.Goals as goal

pub returns-in-Err-clause-cut : goal.returns-in-Err-clause-cut
returns-in-Err-clause-cut g c =
    line_cut (g.P.Port.number c.args.port.now) c.args.now c.args.line.now c.loop-number.number
    (g.P.Port.number c.loop-number.port) c.mark_at-mark.result
    (actor_standing c.args.self.now (g.P.Port.view c.args.port.now) c.args.out.now.items)
    (actor_standing c.loop-number.self (g.P.Port.view c.loop-number.port) c.loop-number.out.items)
    c.turn.new.self (g.P.Port.view c.turn.new.port)
    c.loop-number-test.true c.loop-number.invariant.number c.mark_at-mark.ensures c.loop-number.invariant.taken
    c.in-Err.ensures.cut

pub loop-number-preserved : goal.loop-number-preserved
loop-number-preserved g c = record {
  keeps = g.met.P.Port.goes_on c.args.port.now c.loop-number.port c.turn.new.port c.loop-number.invariant.keeps
      c.turn.ensures.keeps;
  number = c.turn.ensures.number ∙ c.loop-number.invariant.number;
  taken =
      more_runs (g.P.Port.number c.args.port.now) c.args.now c.args.line.now c.loop-number.number
      (g.P.Port.number c.loop-number.port) c.mark_at-mark.result
      (actor_standing c.args.self.now (g.P.Port.view c.args.port.now) c.args.out.now.items)
      (actor_standing c.loop-number.self (g.P.Port.view c.loop-number.port) c.loop-number.out.items)
      (actor_standing c.turn.new.self (g.P.Port.view c.turn.new.port) c.turn.new.out.items)
      c.loop-number.invariant.number c.mark_at-mark.ensures c.loop-number.invariant.taken c.in-Ok.ensures.taken;
  one = one_then c.args.self.now c.loop-number.self c.turn.new.self c.loop-number.invariant.one c.turn.ensures.one;
}
