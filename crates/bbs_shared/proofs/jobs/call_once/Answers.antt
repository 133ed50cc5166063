-- A call goes on from where the board had gone.
use Rattle.bbs_shared.proofs.Turning.{gone_further}
use Rattle.bbs_shared.proofs.jobs.call_once.Goals as goal

pub invariant_of-at : goal.invariant_of-at
invariant_of-at g c =
    let e = c.call-end in
    gone_further g.D.Disk.told c.at.inside.start.value c.at.inside.board e.new.self c.args.command e.result c.args.by
    (g.D.Disk.moment e.new.self.disk) e.ensures.ends e.ensures.grows
    (λ q told. g.met.D.Disk.timed e.new.self.disk q told) e.ensures.does c.at.invariant
