use Rattle.std.proofs.Common.{refl}
use Rattle.pair_top.proofs.Lifting.{empty_of}
use Rattle.pair_top.proofs.PairServed.{pair_served}
use Rattle.pair_top.proofs.standing.StandingServer.call.Goals as goal

pub returns-clause-keeps : goal.returns-clause-keeps
returns-clause-keeps g c = record { pair = c.call.ensures.same; fence_is = refl }

pub returns-clause-served : goal.returns-clause-served
returns-clause-served g c =
    let s = c.args.self.now in
    let e = c.call in
    pair_served g.D.Disk.told g.D.Disk.moment g.D.Disk.fault_count g.E.Disk.told g.E.Disk.moment g.E.Disk.fault_count
    s.fence c.args.by c.args.command s.pair e.new.self e.result (empty_of s.pair.primary_start.log s.fresh)
    (e.ensures.calls s.shown) e.ensures.causes e.ensures.same c.holds.ensures.stands e.ensures.stands
