use Rattle.program_run.proofs.Endings.{played_ends, unopened_ends}
use Rattle.program_run.proofs.running.run_script.Goals as goal

pub returns-in-Ok : goal.returns-in-Ok
returns-in-Ok g c =
    played_ends g.D.Disk.told g.D.Disk.fault_count g.D.Disk.moment g.T.Teller.wording c.args.script.now
    c.play_on.result.0 _ _ c.in-Ok.board.base _
    c.in-Ok.ensures.opens c.play_on.result.0.ending c.play_on.ensures

pub returns-in-Err : goal.returns-in-Err
returns-in-Err g c =
    unopened_ends g.D.Disk.told g.D.Disk.fault_count g.D.Disk.moment g.T.Teller.wording c.args.script.now c.idle.result
    _ _ c.in-Err.ending
    c.idle.ensures.ending c.idle.ensures.empty c.in-Err.ensures.ends
