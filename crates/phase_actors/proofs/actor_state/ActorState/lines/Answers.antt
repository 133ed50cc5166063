use Rattle.std.proofs.Common.{◌∙◌}
use Rattle.phase_actors.specs.Turns.{actor_standing}
use Rattle.phase_actors.proofs.ByLine.{can_next, lines_cut, more_lines}
use Rattle.phase_actors.proofs.OneActor.{one_then}
use Rattle.phase_actors.proofs.actor_state.ActorState.lines.Goals as goal

pub line_if-requires-clause-can : goal.line_if-requires-clause-can
line_if-requires-clause-can g c =
    can_next c.args.by c.args.now c.args.lines.now c.loop-line.line-index c.line-item.result c.loop-line-test.true
    c.line-item.is
    c.args.self.now c.loop-line.self c.requires.can c.loop-line.invariant.one

pub returns-in-Err-clause-cut : goal.returns-in-Err-clause-cut
returns-in-Err-clause-cut g c =
    lines_cut c.args.by c.args.now c.args.lines.now c.loop-line.line-index c.line-item.result c.loop-line-test.true
    c.line-item.is
    (actor_standing c.args.self.now (g.P.Port.view c.args.port.now) c.args.out.now.items)
    (actor_standing c.loop-line.self (g.P.Port.view c.loop-line.port) c.loop-line.out.items)
    c.line_if.new.self (g.P.Port.view c.line_if.new.port) c.loop-line.invariant.taken c.in-Err.ensures.cut

pub loop-line-preserved : goal.loop-line-preserved
loop-line-preserved g c = record {
  keeps = g.met.P.Port.goes_on c.args.port.now c.loop-line.port c.line_if.new.port c.loop-line.invariant.keeps
      c.line_if.ensures.keeps;
  number = c.line_if.ensures.number ∙ c.loop-line.invariant.number;
  taken =
      more_lines c.args.by c.args.now c.args.lines.now c.loop-line.line-index c.line-item.result c.loop-line-test.true
      c.line-item.is
      (actor_standing c.args.self.now (g.P.Port.view c.args.port.now) c.args.out.now.items)
      (actor_standing c.loop-line.self (g.P.Port.view c.loop-line.port) c.loop-line.out.items)
      (actor_standing c.line_if.new.self (g.P.Port.view c.line_if.new.port) c.line_if.new.out.items)
      c.loop-line.invariant.taken c.in-Ok.ensures.taken;
  one = one_then c.args.self.now c.loop-line.self c.line_if.new.self c.loop-line.invariant.one c.line_if.ensures.one;
}
