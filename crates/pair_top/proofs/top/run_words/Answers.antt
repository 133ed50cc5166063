use Rattle.pair_top.proofs.Givings.{number_ends}
use Rattle.pair_top.proofs.Outs.{unasked}
use Rattle.pair_top.proofs.top.run_words.Goals as goal

pub returns-in-Some-clause-ends : goal.returns-in-Some-clause-ends
returns-in-Some-clause-ends g c =
    let r = c.read_and_run in
    number_ends _ c.in-Some.k r.result.account.answers _ _ _ _ r.result.ending c.in-Some.ensures r.ensures.ends

pub returns-in-None-clause-ends : goal.returns-in-None-clause-ends
returns-in-None-clause-ends g c =
    let i = c.idle in
    let e = c.ended in
    unasked g.D.Disk.told g.D.Disk.fault_count g.D.Disk.moment g.E.Disk.told g.E.Disk.fault_count g.E.Disk.moment
    i.result.account.answers i.ensures.account c.args.primary i.result.primary c.args.standby i.result.standby
    i.ensures.disks _ _ _ _ _ _ i.result.ending e.result c.in-None.ensures i.ensures.ending e.ensures.stays
    e.ensures.prints.0 e.ensures.prints.1
