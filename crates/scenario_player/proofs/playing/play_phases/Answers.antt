use Rattle.std.proofs.Common.{◌≤◌, ◌<◌, length, get_or, ap, subst, ◌∙◌, arith}
use Rattle.program_ends.specs.declared.ending.Ending.{Ending}
use Rattle.program_ends.specs.declared.ending.Ending.TheVariants as ending
use Rattle.scenario_player.specs.Tellings.{PhaseEnds}
use Rattle.scenario_player.proofs.SoFar.{all_ran, none_so_far, phases_end, so_far_more}
use Rattle.scenario_player.proofs.playing.play_phases.Goals as goal

pub loop-phase-init : goal.loop-phase-init
loop-phase-init g c =
    record {
      so_far = none_so_far g.D.Disk.told g.T.Teller.wording c.args.script.now c.args.board
          (g.K.Sink.held c.args.sink.now) (g.K.Sink.faults c.args.sink.now)
          c.args.actors.now c.args.kept.now c.requires.begin c.requires.kept c.requires.fresh;
      told = c.requires.before;
    }

pub returns-in_default : goal.returns-in_default
returns-in_default g c =
    let l = c.loop-phase in
    let p = c.play_phase-left.new in
    let left = c.play_phase-left.result.0 in
    let phase = c.phase-item.result in
    record {
      ends = phases_end g.D.Disk.told g.T.Teller.wording c.args.script.now c.args.board (g.K.Sink.held c.args.sink.now)
          (g.K.Sink.faults c.args.sink.now)
          l.phase-index l.actors l.board l.kept (g.K.Sink.held l.sink) (g.K.Sink.faults l.sink) l.invariant.so_far phase
          (subst (λ xs. l.phase-index < length xs) c.items-phases.ensures c.loop-phase-test.true)
          (c.phase-item.is ∙ ap (λ xs. get_or xs l.phase-index phase) c.items-phases.ensures)
          p.actors left p.kept (g.K.Sink.held p.sink) (g.K.Sink.faults p.sink) c.play_phase-left.result.1
          c.in_default.not-Done c.play_phase-left.ensures.ends;
    }

pub loop-phase-preserved : goal.loop-phase-preserved
loop-phase-preserved g c =
    let l = c.loop-phase in
    let p = c.play_phase-left.new in
    let left = c.play_phase-left.result.0 in
    let phase = c.phase-item.result in
    let ends : PhaseEnds g.D.Disk.told g.T.Teller.wording c.args.script.now phase ending.Done l.actors p.actors l.board
    left l.kept p.kept (g.K.Sink.held l.sink)
    (g.K.Sink.held p.sink) (g.K.Sink.faults l.sink) (g.K.Sink.faults p.sink) =
    subst (λ (how : Ending). PhaseEnds g.D.Disk.told g.T.Teller.wording c.args.script.now phase how l.actors p.actors
    l.board left l.kept p.kept
    (g.K.Sink.held l.sink) (g.K.Sink.held p.sink) (g.K.Sink.faults l.sink) (g.K.Sink.faults p.sink)) c.in-Done.is
    c.play_phase-left.ensures.ends in
    record {
      so_far = so_far_more g.D.Disk.told g.T.Teller.wording c.args.script.now c.args.board
          (g.K.Sink.held c.args.sink.now) (g.K.Sink.faults c.args.sink.now)
          l.phase-index l.actors l.board l.kept (g.K.Sink.held l.sink) (g.K.Sink.faults l.sink) l.invariant.so_far phase
          (subst (λ xs. l.phase-index < length xs) c.items-phases.ensures c.loop-phase-test.true)
          (c.phase-item.is ∙ ap (λ xs. get_or xs l.phase-index phase) c.items-phases.ensures)
          p.actors left p.kept (g.K.Sink.held p.sink) (g.K.Sink.faults p.sink) ends;
      told = c.play_phase-left.ensures.behind c.in-Done.is;
    }

pub returns : goal.returns
returns g c =
    let l = c.loop-phase in
    record {
      ends = all_ran g.D.Disk.told g.T.Teller.wording c.args.script.now c.args.board (g.K.Sink.held c.args.sink.now)
          (g.K.Sink.faults c.args.sink.now)
          l.phase-index l.actors l.board l.kept (g.K.Sink.held l.sink) (g.K.Sink.faults l.sink)
          (subst (λ xs. length xs ≤ l.phase-index) c.items-phases.ensures (omega (arith, c.loop-phase-test.false)))
          (subst (λ xs. l.phase-index ≤ length xs) c.items-phases.ensures (omega (arith, l.auto.phase-index-end)))
          l.invariant.so_far;
    }
