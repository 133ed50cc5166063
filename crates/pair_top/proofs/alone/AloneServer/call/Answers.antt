use Rattle.std.proofs.Common.{sym, subst}
use Rattle.pair_runs.specs.Served.{IsServed}
use Rattle.standby_board.specs.Calls.{End}
use Rattle.pair_top.specs.Servers.{alone_server}
use Rattle.pair_top.proofs.AloneServed.{alone_keeps, alone_served}
use Rattle.pair_top.proofs.alone.AloneServer.call.Goals as goal

pub returns-clause-keeps : goal.returns-clause-keeps
returns-clause-keeps g c =
    let s = c.args.self.now in
    let e = c.call in
    alone_keeps g.E.Disk.told g.E.Disk.moment g.E.Disk.fault_count s.fence c.args.by c.args.command s.board e.new.self
    e.result (e.ensures.writes s.shown)

pub returns-clause-served : goal.returns-clause-served
returns-clause-served g c =
    let s = c.args.self.now in
    let e = c.call in
    subst (λ (r : End). IsServed c.args.by c.args.command (alone_server g.E.Disk.fault_count s.board) r
    (alone_server g.E.Disk.fault_count e.new.self)) (sym c.end_of.ensures)
    (alone_served g.E.Disk.told g.E.Disk.moment g.E.Disk.fault_count s.fence c.args.by c.args.command s.board e.new.self
    e.result (e.ensures.writes s.shown))
