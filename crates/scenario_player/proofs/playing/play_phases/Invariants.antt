use Rattle.scenario_player.proofs.SoFar.{IsSoFar}
use Rattle.scenario_player.proofs.playing.play_phases.Given as goal

abbrev pub invariant-loop-phase : goal.invariant-loop-phase
invariant-loop-phase g l = record {
  so_far : IsSoFar g.D.Disk.told g.T.Teller.wording l.script l.phase-index l.actors l.initial.board l.board l.kept
      (g.K.Sink.held l.initial.sink) (g.K.Sink.held l.sink) (g.K.Sink.faults l.initial.sink) (g.K.Sink.faults l.sink);
  told : g.T.Teller.told l.teller l.board.base l.board.log;
}
