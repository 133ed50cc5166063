use Rattle.lock_runs.proofs.Endings.{opened_ends, unlocked_ends}
use Rattle.lock_runs.proofs.running.run_script.Goals as goal

pub returns-in-Ok : goal.returns-in-Ok
returns-in-Ok g c =
    opened_ends c.args.lines.now _ _ _ _ c.in-Ok.locket.base _ c.in-Ok.ensures.opens c.run_on.result.0.ending
    c.run_on.ensures

pub returns-in-Err : goal.returns-in-Err
returns-in-Err g c =
    unlocked_ends c.args.lines.now _ _ _ _ c.in-Err.ending _ c.unlocked.ensures.ending c.unlocked.ensures.none
    c.in-Err.ensures.ends
