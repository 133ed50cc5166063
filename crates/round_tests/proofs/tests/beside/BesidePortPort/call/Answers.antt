use Rattle.board_port.specs.Went.{seen_of}
use Rattle.round_tests.proofs.Visits.{own_called, looks_called}
use Rattle.round_tests.proofs.tests.beside.BesidePortPort.call.Goals as goal

pub returns-clause-called : goal.returns-clause-called
returns-clause-called g c =
    let v = c.args.self.now.board.now in
    let u = c.pay_visit_if.new.board in
    let e = c.call-end in
    looks_called (seen_of 7 v) (seen_of 7 u) c.args.command e.result (seen_of 7 e.new.self) c.pay_visit_if.ensures
    (own_called u e.new.self c.args.command e.result (g.D.Disk.moment e.new.self.disk) e.ensures.ends e.ensures.grows
    c.holds.ensures.few)
