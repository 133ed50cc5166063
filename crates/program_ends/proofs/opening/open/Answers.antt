use Rattle.std.proofs.Common.{refl}
use Rattle.bbs_board.specs.Opening.{IsBoard, Refuses}
use Rattle.program_ends.proofs.Opened.{opened, unopened}
use Rattle.program_ends.proofs.opening.open.Goals as goal

pub returns-in-Ok-clause-opens : goal.returns-in-Ok-clause-opens
returns-in-Ok-clause-opens g c =
    opened (IsBoard c.in-Ok.board.base) _ _ c.in-Ok.ensures.found
    (λ q told. g.met.D.Disk.timed c.in-Ok.board.disk q told)
    c.in-Ok.ensures.ok (refl, refl) c.in-Ok.ensures.loaded.stood

pub returns-in-Err-clause-ends : goal.returns-in-Err-clause-ends
returns-in-Err-clause-ends g c =
    let (whole, prints) = c.ended_unloaded.ensures.prints in
    unopened Refuses _ _ c.in-Err.ensures.err whole c.in-Err.fault c.ended_unloaded.result
    c.ended_unloaded.ensures.ending prints c.in-Err.ensures.cause c.in-Err.ensures.refused
