use Rattle.std.proofs.Common.{subst}
use Rattle.std.specs.Option.{ForSome}
use Rattle.locket.specs.Kept.{KeptLocks}
use Rattle.locket.specs.Lives.{IsLife}
use Rattle.locket.specs.View.{LocketView, life_of}
use Rattle.locket.proofs.Changing.{life_lived}
use Rattle.locket.proofs.Keeping.{kept_locks}
use Rattle.locket.proofs.locket.Locket.holds.Goals as goal

pub returns-clause-life : goal.returns-clause-life
returns-clause-life g c = subst (λ (v : LocketView g.row.D.Denot). IsLife (life_of v)) c.self.view_is
    (life_lived c.self.inside.log c.self.inside.state c.self.invariant)

pub returns-clause-kept : goal.returns-clause-kept
returns-clause-kept g c =
    let l = c.self.inside.log in
    let sound = c.self.invariant in
    subst (λ (v : LocketView g.row.D.Denot). ForSome (g.D.Disk.told v.disk) (KeptLocks v.base v.log v.marks v.since))
    c.self.view_is
    (λ p is. kept_locks l.start sound.opened l.log sound.fits sound.lawful l.marks l.since p
    (c.holds.ensures.kept p is))
