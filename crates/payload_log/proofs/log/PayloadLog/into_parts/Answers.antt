use Rattle.std.proofs.Common.{subst}
use Rattle.std.specs.Option.{ForSome}
use Rattle.payload_log.specs.Kept.{KeptList}
use Rattle.payload_log.specs.View.{LogView}
use Rattle.payload_log.proofs.log.PayloadLog.into_parts.Goals as goal

pub returns-clause-kept : goal.returns-clause-kept
returns-clause-kept g c =
    subst (λ (v : LogView g.row.D.Denot g.row.X.Denot). ForSome (g.D.Disk.told v.disk)
    (KeptList g.X.Payload.spelling v.start v.log v.marks v.since)) c.self.view_is
    (λ p is. (c.self.invariant.holds p is).kept)
