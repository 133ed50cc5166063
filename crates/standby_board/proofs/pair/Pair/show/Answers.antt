-- The number that was shown is no part of how a pair stands.
use Rattle.std.proofs.Common.{refl, ap}
use Rattle.fenced_board.specs.Fences.{FenceView}
use Rattle.standby_board.proofs.Standing.{stands_roomier}
use Rattle.standby_board.proofs.pair.Pair.show.Goals as goal

pub invariant_of-self : goal.invariant_of-self
invariant_of-self g c =
    stands_roomier g.D.Disk.told g.E.Disk.told _ c.self.invariant _ _ c.show.new.self refl refl
    (ap (λ (f : FenceView). f.numbers) c.show.ensures.shown)
