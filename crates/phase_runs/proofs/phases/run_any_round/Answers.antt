use Rattle.phase_runs.proofs.RoundsAlone.{no_round}
use Rattle.phase_runs.proofs.phases.run_any_round.Goals as goal

pub returns-in-None-clause-ran : goal.returns-in-None-clause-ran
returns-in-None-clause-ran g c = no_round g.D.Disk.told c.args.now c.args.board.now c.args.round.now c.args.actors.now
    c.in-None.is
