use Rattle.std.proofs.Common.{refl}
use Rattle.program_ends.proofs.Public.{read_cause, unread_cause}
use Rattle.program_run.proofs.Endings.{not_before, not_read, script_runs, unread}
use Rattle.program_run.proofs.running.run.Goals as goal

pub returns-in-Ok-clause-ends : goal.returns-in-Ok-clause-ends
returns-in-Ok-clause-ends g c =
    script_runs g.D.Disk.told g.D.Disk.fault_count g.D.Disk.moment g.T.Teller.wording c.run_script.result.0 _ _ _ _
    c.run_script.result.0.ending
    (record {
      script = c.in-Ok.script;
      reads = c.in-Ok.ensures.reads;
      sound = c.in-Ok.ensures.facts;
      ends =
          c.run_script.ensures;
    })

pub returns-in-Ok-clause-cause : goal.returns-in-Ok-clause-cause
returns-in-Ok-clause-cause g c =
    read_cause c.run_script.result.0.ending _ _
    (not_read g.D.Disk.told g.D.Disk.fault_count g.D.Disk.moment g.T.Teller.wording c.in-Ok.script c.run_script.result.0
    _ _ c.run_script.result.0.ending c.run_script.ensures)
    c.in-Ok.ensures.cause

pub returns-in-Ok-clause-unopened : goal.returns-in-Ok-clause-unopened
returns-in-Ok-clause-unopened g c before =
    absurd (not_before g.D.Disk.told g.D.Disk.fault_count g.D.Disk.moment g.T.Teller.wording c.in-Ok.script
    c.run_script.result.0 _ _ c.run_script.result.0.ending c.run_script.ensures before)

pub returns-in-Err-clause-ends : goal.returns-in-Err-clause-ends
returns-in-Err-clause-ends g c =
    let prints = c.ended_before.ensures.prints in
    unread g.D.Disk.told g.D.Disk.fault_count g.D.Disk.moment g.T.Teller.wording c.idle.result _ _ _ _ refl refl
    prints.0 c.in-Err.ending c.ended_before.result
    c.idle.ensures.ending c.in-Err.ensures.reads c.ended_before.ensures.ending c.idle.ensures.empty prints.1

pub returns-in-Err-clause-cause : goal.returns-in-Err-clause-cause
returns-in-Err-clause-cause g c =
    unread_cause c.in-Err.ending c.ended_before.result c.idle.result.ending _ _ c.idle.ensures.ending
    c.ended_before.ensures.ending c.in-Err.ensures.cause
