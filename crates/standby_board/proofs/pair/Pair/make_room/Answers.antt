-- Room is no part of how a pair stands.
use Rattle.std.proofs.Common.{refl, ap, subst, arith}
use Rattle.fenced_board.specs.Fences.{FenceView}
use Rattle.standby_board.specs.Pairs.{PairView}
use Rattle.standby_board.specs.Steps.{KeepsAll}
use Rattle.standby_board.proofs.Standing.{stands_roomier}
use Rattle.standby_board.proofs.pair.Pair.make_room.Goals as goal

pub invariant_of-self : goal.invariant_of-self
invariant_of-self g c =
    stands_roomier g.D.Disk.told g.E.Disk.told _ c.self.invariant c.reserve.new.self _ _ c.reserve.ensures.stays refl
    refl

pub invariant_of-self-in_err-reserve-2 : goal.invariant_of-self-in_err-reserve-2
invariant_of-self-in_err-reserve-2 g c =
    stands_roomier g.D.Disk.told g.E.Disk.told _ c.self.invariant c.reserve.new.self c.reserve-2.new.self _
    c.reserve.ensures.stays c.reserve-2.ensures.stays refl

pub invariant_of-self-2 : goal.invariant_of-self-2
invariant_of-self-2 g c =
    stands_roomier g.D.Disk.told g.E.Disk.told _ c.self.invariant c.reserve.new.self c.reserve-2.new.self
    c.reserve-3.new.self c.reserve.ensures.stays c.reserve-2.ensures.stays
    (ap (λ (f : FenceView). f.numbers) c.reserve-3.ensures.stays)

pub returns-clause-keeps : goal.returns-clause-keeps
returns-clause-keeps g c =
    let b = c.self.inside in
    subst (λ (v : PairView g.row.D.Denot g.row.E.Denot). KeepsAll v (record {
      primary = c.reserve.new.self;
      standby = c.reserve-2.new.self;
      primary_start = b.primary_start.value;
      standby_start = b.standby_start.value;
      fence = c.reserve-3.new.self;
      missing = b.missing;
    })) c.self.view_is (record {
      primary = c.reserve.ensures.stays;
      more_primary = c.reserve.ensures.kept;
      standby = c.reserve-2.ensures.stays;
      more_standby = c.reserve-2.ensures.kept;
      fence = c.reserve-3.ensures.stays;
      more_fence = c.reserve-3.ensures.kept;
      primary_start = refl;
      standby_start = refl;
      missing = refl;
    })

pub returns-in_err-reserve-clause-keeps : goal.returns-in_err-reserve-clause-keeps
returns-in_err-reserve-clause-keeps g c =
    let b = c.self.inside in
    subst (λ (v : PairView g.row.D.Denot g.row.E.Denot). KeepsAll v (record {
      primary = c.reserve.new.self;
      standby = b.standby;
      primary_start = b.primary_start.value;
      standby_start = b.standby_start.value;
      fence = b.fence;
      missing = b.missing;
    })) c.self.view_is (record {
      primary = c.reserve.ensures.stays;
      more_primary = c.reserve.ensures.kept;
      standby = refl;
      more_standby = omega arith;
      fence = refl;
      more_fence = omega arith;
      primary_start = refl;
      standby_start = refl;
      missing = refl;
    })

pub returns-in_err-reserve-2-clause-keeps : goal.returns-in_err-reserve-2-clause-keeps
returns-in_err-reserve-2-clause-keeps g c =
    let b = c.self.inside in
    subst (λ (v : PairView g.row.D.Denot g.row.E.Denot). KeepsAll v (record {
      primary = c.reserve.new.self;
      standby = c.reserve-2.new.self;
      primary_start = b.primary_start.value;
      standby_start = b.standby_start.value;
      fence = b.fence;
      missing = b.missing;
    })) c.self.view_is (record {
      primary = c.reserve.ensures.stays;
      more_primary = c.reserve.ensures.kept;
      standby = c.reserve-2.ensures.stays;
      more_standby = c.reserve-2.ensures.kept;
      fence = refl;
      more_fence = omega arith;
      primary_start = refl;
      standby_start = refl;
      missing = refl;
    })
