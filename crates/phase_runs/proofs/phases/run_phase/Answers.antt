use Rattle.std.proofs.Common.{List, subst}
use Rattle.scenario_lines.specs.declared.script.Line.{Line}
use Rattle.phase_runs.specs.Actors.{ActorsCut, ActorsRan}
use Rattle.phase_runs.proofs.WholePhases.{actors_cut, then_cut, then_held}
use Rattle.phase_runs.proofs.phases.run_phase.Goals as goal

pub returns-in-Err-clause-cut : goal.returns-in-Err-clause-cut
returns-in-Err-clause-cut g c =
    actors_cut g.D.Disk.told c.args.phase.now c.args.actors.now c.run_actors.new.actors c.args.board.now
    c.run_actors.new.board
    (subst (λ (lines : List Line). ActorsCut g.D.Disk.told c.args.phase.now.at lines c.args.actors.now
    c.run_actors.new.actors
    c.args.board.now c.run_actors.new.board)
    c.items.ensures c.in-Err.ensures.cut)

pub returns-in-Ok-run_any_round-clause-ran : goal.returns-in-Ok-run_any_round-clause-ran
returns-in-Ok-run_any_round-clause-ran g c =
    then_held g.D.Disk.told c.args.phase.now c.args.actors.now c.run_actors.new.actors c.in-Ok.parts c.args.board.now
    c.run_actors.new.board
    c.run_any_round.new.board
    (subst (λ (lines : List Line). ActorsRan g.D.Disk.told c.args.phase.now.at lines c.args.actors.now
    c.run_actors.new.actors
    c.in-Ok.parts c.args.board.now c.run_actors.new.board)
    c.items.ensures c.in-Ok.ensures.ran)
    c.run_any_round.new.actors c.in-Ok-run_any_round.report c.in-Ok-run_any_round.ensures.ran

pub returns-in-Err-run_any_round-clause-cut : goal.returns-in-Err-run_any_round-clause-cut
returns-in-Err-run_any_round-clause-cut g c =
    then_cut g.D.Disk.told c.args.phase.now c.args.actors.now c.run_actors.new.actors c.in-Ok.parts c.args.board.now
    c.run_actors.new.board
    c.run_any_round.new.board
    (subst (λ (lines : List Line). ActorsRan g.D.Disk.told c.args.phase.now.at lines c.args.actors.now
    c.run_actors.new.actors
    c.in-Ok.parts c.args.board.now c.run_actors.new.board)
    c.items.ensures c.in-Ok.ensures.ran)
    c.in-Err-run_any_round.ensures.cut
