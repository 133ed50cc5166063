-- Room is no part of how a pair stands.
use Rattle.std.proofs.Common.{refl, subst, arith}
use Rattle.standby_board.specs.Pairs.{PairView}
use Rattle.standby_board.specs.Steps.{KeepsAll}
use Rattle.standby_board.proofs.Standing.{stands_roomier}
use Rattle.standby_board.proofs.pair.Pair.make_room_again.Goals as goal

pub invariant_of-self : goal.invariant_of-self
invariant_of-self g c =
    stands_roomier g.D.Disk.told g.E.Disk.told _ c.self.invariant _ c.reserve.new.self _ refl c.reserve.ensures.stays
    refl

pub returns-clause-keeps : goal.returns-clause-keeps
returns-clause-keeps g c =
    let b = c.self.inside in
    subst (λ (v : PairView g.row.D.Denot g.row.E.Denot). KeepsAll v (record {
      primary = b.primary;
      standby = c.reserve.new.self;
      primary_start = b.primary_start.value;
      standby_start = b.standby_start.value;
      fence = b.fence;
      missing = b.missing;
    })) c.self.view_is (record {
      primary = refl;
      more_primary = omega arith;
      standby = c.reserve.ensures.stays;
      more_standby = c.reserve.ensures.kept;
      fence = refl;
      more_fence = omega arith;
      primary_start = refl;
      standby_start = refl;
      missing = refl;
    })
