use Rattle.std.proofs.Common.{◌∙◌}
use Rattle.pair_top.specs.Top.{PairPorts, ports_at}
use Rattle.pair_top.proofs.Givings.{ran_ends}
use Rattle.pair_top.proofs.Outs.{unpaired}
use Rattle.pair_top.proofs.RunEnds.{run_ends}
use Rattle.pair_top.proofs.Started.{is_begun, is_empty, is_unshown, starts_at}
use Rattle.pair_top.proofs.top.run_script.Goals as goal

pub run_on-requires-clause-start : goal.run_on-requires-clause-start
run_on-requires-clause-start g c =
    c.next-start.ensures
    ∙ starts_at g.D.Disk.told g.D.Disk.fault_count g.D.Disk.moment g.E.Disk.told g.E.Disk.fault_count g.E.Disk.moment
    _ _ _ c.in-Ok.pair c.in-Ok.ensures.opens

pub run_on-requires-clause-fresh : goal.run_on-requires-clause-fresh
run_on-requires-clause-fresh g c =
    is_empty g.D.Disk.told g.D.Disk.fault_count g.D.Disk.moment g.E.Disk.told g.E.Disk.fault_count g.E.Disk.moment
    _ _ _ c.in-Ok.pair c.in-Ok.ensures.opens

pub run_on-requires-clause-begun : goal.run_on-requires-clause-begun
run_on-requires-clause-begun g c =
    is_begun g.D.Disk.told g.D.Disk.fault_count g.D.Disk.moment g.E.Disk.told g.E.Disk.fault_count g.E.Disk.moment
    _ _ _ c.in-Ok.pair c.in-Ok.ensures.opens

pub run_on-requires-clause-unshown : goal.run_on-requires-clause-unshown
run_on-requires-clause-unshown g c =
    is_unshown g.D.Disk.told g.D.Disk.fault_count g.D.Disk.moment g.E.Disk.told g.E.Disk.fault_count g.E.Disk.moment
    _ _ _ c.in-Ok.pair c.in-Ok.ensures.opens

pub returns-in-Ok : goal.returns-in-Ok
returns-in-Ok g c =
    let e = c.run_on.ensures.runs in
    let v : PairPorts = (ports_at g.D.Disk.told g.D.Disk.fault_count g.D.Disk.moment
    g.E.Disk.told g.E.Disk.fault_count g.E.Disk.moment (g.K.Sink.held c.args.sink.now) (g.K.Sink.faults c.args.sink.now)
    c.args.primary c.args.standby) in
    let answers = c.run_on.result.account.answers in
    ran_ends c.args.script.now c.args.k answers v _ c.run_on.result.ending e.0 e.2
    (run_ends c.beginnings_are_reached.ensures g.D.Disk.told g.D.Disk.fault_count g.D.Disk.moment
    g.E.Disk.told g.E.Disk.fault_count g.E.Disk.moment g.met.D.Disk.timed g.met.E.Disk.timed
    (g.K.Sink.held c.open_pair.new.sink) (g.K.Sink.faults c.open_pair.new.sink) v c.in-Ok.pair c.in-Ok.ensures.opens
    c.args.script.now c.args.k e.0 e.1 answers (g.K.Sink.held c.run_on.new.sink) (g.K.Sink.faults c.run_on.new.sink)
    c.run_on.result.primary c.run_on.result.standby e.3 e.4)

pub returns-in-Err : goal.returns-in-Err
returns-in-Err g c =
    let i = c.idle in
    unpaired g.D.Disk.told g.D.Disk.fault_count g.D.Disk.moment g.E.Disk.told g.E.Disk.fault_count g.E.Disk.moment
    i.result.account.answers i.ensures.account c.in-Err.primary i.result.primary c.in-Err.standby i.result.standby
    i.ensures.disks c.args.script.now c.args.k _ _ _ c.in-Err.ending i.result.ending i.ensures.ending
    c.in-Err.ensures.still c.in-Err.ensures.ends
