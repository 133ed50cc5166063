use Rattle.std.proofs.Common.{arith}
use Rattle.pair_runs.proofs.Playing.{all_ran, doubted, none_so_far, so_far_more, stopped_by}
use Rattle.pair_runs.proofs.phases.run_phases.Goals as goal

pub loop-phase-init : goal.loop-phase-init
loop-phase-init g c = record {
  keeps = g.met.S.Server.same c.args.server.now;
  so_far = none_so_far c.args.script.now c.args.phases.now
      (g.S.Server.view c.args.server.now) c.args.account.now.answers
      (g.K.Sink.held c.args.sink.now) (g.K.Sink.faults c.args.sink.now);
}

pub loop-phase-preserved : goal.loop-phase-preserved
loop-phase-preserved g c =
    let l = c.loop-phase in
    let p = c.play_phase.new in
    record {
      keeps = g.met.S.Server.goes_on c.args.server.now l.server p.server l.invariant.keeps c.play_phase.ensures.keeps;
      so_far = so_far_more c.args.script.now c.args.phases.now l.phase-index (g.S.Server.view c.args.server.now)
          (g.S.Server.view l.server) (g.S.Server.view p.server) c.args.account.now.answers l.account.answers
          p.account.answers
          l.told (g.K.Sink.held c.args.sink.now) (g.K.Sink.held l.sink) (g.K.Sink.held p.sink)
          (g.K.Sink.faults c.args.sink.now) (g.K.Sink.faults l.sink) (g.K.Sink.faults p.sink) l.invariant.so_far
          c.phase-item.result c.loop-phase-test.true c.phase-item.is c.in-Done.ensures.ends;
    }

pub returns-in-Doubt : goal.returns-in-Doubt
returns-in-Doubt g c =
    let l = c.loop-phase in
    let p = c.play_phase.new in
    record {
      keeps = g.met.S.Server.goes_on c.args.server.now l.server p.server l.invariant.keeps c.play_phase.ensures.keeps;
      ends = doubted c.args.script.now c.args.phases.now l.phase-index (g.S.Server.view c.args.server.now)
          (g.S.Server.view l.server) (g.S.Server.view p.server) c.args.account.now.answers l.account.answers
          p.account.answers
          l.told (g.K.Sink.held c.args.sink.now) (g.K.Sink.held l.sink) (g.K.Sink.held p.sink)
          (g.K.Sink.faults c.args.sink.now) (g.K.Sink.faults l.sink) (g.K.Sink.faults p.sink) l.invariant.so_far
          c.phase-item.result c.loop-phase-test.true c.phase-item.is c.in-Doubt.ensures.ends;
    }

pub returns-in_default : goal.returns-in_default
returns-in_default g c =
    let l = c.loop-phase in
    let p = c.play_phase.new in
    record {
      keeps = g.met.S.Server.goes_on c.args.server.now l.server p.server l.invariant.keeps c.play_phase.ensures.keeps;
      ends = stopped_by c.args.script.now c.args.phases.now l.phase-index (g.S.Server.view c.args.server.now)
          (g.S.Server.view l.server) (g.S.Server.view p.server) c.args.account.now.answers l.account.answers
          p.account.answers
          l.told (g.K.Sink.held c.args.sink.now) (g.K.Sink.held l.sink) (g.K.Sink.held p.sink)
          (g.K.Sink.faults c.args.sink.now) (g.K.Sink.faults l.sink) (g.K.Sink.faults p.sink) l.invariant.so_far
          c.phase-item.result c.loop-phase-test.true c.phase-item.is c.play_phase.result
          c.in_default.not-Done c.in_default.not-Doubt c.play_phase.ensures.ends;
    }

pub returns : goal.returns
returns g c =
    let l = c.loop-phase in
    record {
      keeps = l.invariant.keeps;
      ends = all_ran c.args.script.now c.args.phases.now l.phase-index (g.S.Server.view c.args.server.now)
          (g.S.Server.view l.server) c.args.account.now.answers l.account.answers l.told
          (g.K.Sink.held c.args.sink.now) (g.K.Sink.held l.sink) (g.K.Sink.faults c.args.sink.now)
          (g.K.Sink.faults l.sink)
          (omega (arith, c.loop-phase-test.false)) (omega (arith, l.auto.phase-index-end)) l.invariant.so_far;
    }
