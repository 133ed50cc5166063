use Rattle.std.proofs.Common.{List, None, subst}
use Rattle.pair_lines.specs.declared.answered.PairAnswered.{PairAnswered}
use Rattle.pair_top.specs.TakeOvers.{Starves}
use Rattle.pair_top.proofs.Ways.{starves_first}
use Rattle.pair_top.proofs.running.run_on.Goals as goal

pub returns-in_default : goal.returns-in_default
returns-in_default g c =
    let e = c.starved.ensures in
    let u = c.args.pair in
    let t = starves_first g.D.Disk.told g.D.Disk.fault_count g.E.Disk.told g.E.Disk.fault_count g.E.Disk.moment
    c.args.script.now c.args.k u c.requires.fresh.0 c.requires.fresh.1 c.requires.fresh.2 e.0
    c.starved.result.account.answers (g.K.Sink.held c.args.sink.now) (g.K.Sink.held c.starved.new.sink)
    (g.K.Sink.faults c.args.sink.now) (g.K.Sink.faults c.starved.new.sink)
    c.starved.result.primary c.starved.result.standby
    (subst (λ (l : List PairAnswered). Starves g.D.Disk.told g.D.Disk.fault_count g.E.Disk.told g.E.Disk.fault_count
    g.E.Disk.moment u l c.starved.result.account.answers e.0
    (g.K.Sink.held c.args.sink.now) (g.K.Sink.held c.starved.new.sink)
    (g.K.Sink.faults c.args.sink.now) (g.K.Sink.faults c.starved.new.sink)
    c.starved.result.primary c.starved.result.standby) c.new-account.ensures e.2) in
    record { runs = (e.0, None, e.1, t.0, t.1) }
