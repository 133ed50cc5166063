use Rattle.board_port.proofs.Sole.{sole_called, sole_went}
use Rattle.board_port.proofs.port.SolePortPort.call.Goals as goal

pub returns-clause-keeps : goal.returns-clause-keeps
returns-clause-keeps g c =
    let p = c.args.self.now in
    let e = c.call-end in
    sole_went p.by p.board.now e.new.self c.args.command e.result
    (g.D.Disk.moment e.new.self.disk) e.ensures.ends e.ensures.grows g.D.Disk.told p.board.ghost_name
    (λ q told. g.met.D.Disk.timed e.new.self.disk q told) e.ensures.does

pub returns-clause-called : goal.returns-clause-called
returns-clause-called g c =
    let p = c.args.self.now in
    let e = c.call-end in
    sole_called p.by p.board.now e.new.self c.args.command e.result
    (g.D.Disk.moment e.new.self.disk) e.ensures.ends e.ensures.grows c.holds.ensures.few
