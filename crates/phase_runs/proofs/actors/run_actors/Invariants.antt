use Rattle.phase_runs.specs.Actors.{FirstRan}
use Rattle.phase_runs.proofs.actors.run_actors.Given as goal

abbrev pub invariant-loop-index : goal.invariant-loop-index
invariant-loop-index g l =
    FirstRan g.D.Disk.told l.now l.lines l.index l.initial.actors l.actors l.parts l.initial.board l.board
