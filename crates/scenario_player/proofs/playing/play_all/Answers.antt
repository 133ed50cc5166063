use Rattle.std.proofs.Common.{ap, subst, ℕ}
use Rattle.scenario_player.specs.Kept.{KeptSoFar}
use Rattle.scenario_player.specs.Tellings.{Finishes}
use Rattle.scenario_player.proofs.Endings.{no_actors, plays}
use Rattle.scenario_player.proofs.playing.play_all.Goals as goal

pub returns-in-Err : goal.returns-in-Err
returns-in-Err g c = record {
  plays = no_actors g.D.Disk.told g.T.Teller.wording c.args.script.now c.args.board c.args.kept.now.answers
      c.args.kept.now.reports
      (g.K.Sink.held c.args.sink.now) (g.K.Sink.faults c.args.sink.now)
      (ap (λ (k : KeptSoFar). k.answers) c.requires.kept) (ap (λ (k : KeptSoFar). k.reports) c.requires.kept);
}

pub returns-in-Err-begin : goal.returns-in-Err-begin
returns-in-Err-begin g c = record {
  plays = no_actors g.D.Disk.told g.T.Teller.wording c.args.script.now c.args.board c.args.kept.now.answers
      c.args.kept.now.reports
      (g.K.Sink.held c.args.sink.now) (g.K.Sink.faults c.args.sink.now)
      (ap (λ (k : KeptSoFar). k.answers) c.requires.kept) (ap (λ (k : KeptSoFar). k.reports) c.requires.kept);
}

pub returns : goal.returns
returns g c =
    let p = c.play_phases-board.new in
    let w = c.play_phases-board.result.0 in
    let end = c.finish-ending in
    record {
      plays = plays g.D.Disk.told g.T.Teller.wording c.args.script.now c.args.board w p.kept
          (g.K.Sink.held c.args.sink.now) (g.K.Sink.faults c.args.sink.now)
          (g.K.Sink.held p.sink) (g.K.Sink.faults p.sink) end.result (g.K.Sink.held end.new.sink)
          (g.K.Sink.faults end.new.sink)
          c.play_phases-board.result.1 c.play_phases-board.ensures.ends
          (subst (λ (n : ℕ). Finishes c.play_phases-board.result.1 end.result w n
          (g.K.Sink.held p.sink) (g.K.Sink.held end.new.sink) (g.K.Sink.faults p.sink) (g.K.Sink.faults end.new.sink))
          c.phases.ensures end.ensures);
    }
