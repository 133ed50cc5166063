use Rattle.board_port.specs.Went.{went_same}
use Rattle.board_port.proofs.port.SolePortPort.place.Goals as goal

pub returns-clause-keeps : goal.returns-clause-keeps
returns-clause-keeps g c =
    let p = c.args.self.now in
    went_same g.D.Disk.told p.by p.board.ghost_name p.board.now
