use Rattle.pair_top.proofs.EndsGive.{not_before}
use Rattle.pair_top.proofs.Givings.{read_cause, script_ends, unread_cause}
use Rattle.pair_top.proofs.Outs.{unread}
use Rattle.pair_top.proofs.top.read_and_run.Goals as goal

pub returns-in-Ok-clause-ends : goal.returns-in-Ok-clause-ends
returns-in-Ok-clause-ends g c =
    let r = c.run_script in
    script_ends c.args.k r.result.account.answers _ _ _ _ r.result.ending (record {
      script = c.in-Ok.script;
      reads = c.in-Ok.ensures.reads.0;
      pair = c.in-Ok.ensures.reads.1;
      ends = r.ensures;
    })

pub returns-in-Ok-clause-read : goal.returns-in-Ok-clause-read
returns-in-Ok-clause-read g c =
    let r = c.run_script in
    read_cause c.in-Ok.script c.args.k r.result.account.answers _ _ r.result.ending _ _ r.ensures c.in-Ok.ensures.cause

pub returns-in-Ok-clause-untouched : goal.returns-in-Ok-clause-untouched
returns-in-Ok-clause-untouched g c before =
    let r = c.run_script in
    absurd (not_before c.in-Ok.script c.args.k r.result.account.answers _ _ r.result.ending r.ensures before)

pub returns-in-Err-clause-ends : goal.returns-in-Err-clause-ends
returns-in-Err-clause-ends g c =
    let i = c.idle in
    let e = c.ended in
    unread g.D.Disk.told g.D.Disk.fault_count g.D.Disk.moment g.E.Disk.told g.E.Disk.fault_count g.E.Disk.moment
    i.result.account.answers i.ensures.account c.args.primary i.result.primary c.args.standby i.result.standby
    i.ensures.disks _ _ _ _ c.args.k _ _ i.result.ending c.in-Err.ending e.result i.ensures.ending e.ensures.ending
    c.in-Err.ensures.reads e.ensures.prints.0 e.ensures.prints.1

pub returns-in-Err-clause-read : goal.returns-in-Err-clause-read
returns-in-Err-clause-read g c =
    let i = c.idle in
    let e = c.ended in
    unread_cause i.result.ending c.in-Err.ending e.result _ _ _ _ i.ensures.ending e.ensures.ending e.ensures.stays
    c.in-Err.ensures.reads c.in-Err.ensures.cause

pub returns-in-Err-clause-untouched : goal.returns-in-Err-clause-untouched
returns-in-Err-clause-untouched g c before = c.idle.ensures.disks
