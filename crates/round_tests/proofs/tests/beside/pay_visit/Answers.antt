use Rattle.round_tests.proofs.Visits.{visit_looks}
use Rattle.round_tests.proofs.tests.beside.pay_visit.Goals as goal

pub returns : goal.returns
returns g c =
    let e = c.call-end in
    visit_looks c.args.board.now e.new.self c.args.visit e.result
    (g.D.Disk.moment e.new.self.disk) e.ensures.grows c.holds.ensures.few
