use Rattle.pair_runs.proofs.Playing.{IsSoFar}
use Rattle.pair_runs.proofs.phases.run_phases.Given as goal

abbrev pub invariant-loop-phase : goal.invariant-loop-phase
invariant-loop-phase g l = record {
  keeps : g.S.Server.keeps l.initial.server l.server;
  so_far : IsSoFar l.script l.phases l.phase-index (g.S.Server.view l.initial.server) (g.S.Server.view l.server)
      l.initial.account.answers l.account.answers l.told
      (g.K.Sink.held l.initial.sink) (g.K.Sink.held l.sink) (g.K.Sink.faults l.initial.sink) (g.K.Sink.faults l.sink);
}
